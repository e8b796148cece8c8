-- A route that has a channel takes nothing from channels that other routes don't have.
use Rattle.std.proofs.Common.{◌≡◌, ℕ, zero, suc, ◌+◌, ◌<◌, ◌≤◌, Bool, true, false, cond, ◌&&◌, refl, ap, sym, arith, ◌∙◌, List, [], ◌∷◌, length, Option, Some, None}
use Rattle.std.specs.Prelude.{ℤ, pos, ◌+ℤ◌, ◌==◌, slice_get}
use Rattle.std.proofs.lemmas.Bool.Decides.{nat_tests}
use Rattle.sound_model.specs.Numbers.{scale, clip}
use Rattle.sound_model.specs.Routes.{Route, Send, leads_to, feeds, any_solo, pre, post, given, sent, fed, fed_by, taken_in, input_here, input_within, post_of}
use Rattle.sound_laws.specs.Desks.{LeadsWide, AgreeOnOwn, OnlyOwnChannels}
use Rattle.sound_laws.proofs.Cases.{by_test}
use Rattle.sound_laws.proofs.DeskLaws.{only_links_feed}
use Rattle.sound_laws.proofs.DepthLaws.{input-step}

both : {a b d e : ℤ} → a ≡ b → d ≡ e → a +ℤ d ≡ b +ℤ e
both g k = cc

-- two agree on so many channels
abbrev Agree : ℕ → (ℕ → ℤ) → (ℕ → ℤ) → Type 0
Agree channels value other = (k : ℕ) → k < channels → value k ≡ other k

-- ---- what one route gives another

given_same : (q : Route) (channels c : ℕ) (value other : ℕ → ℤ) → 1 ≤ q.channels → q.channels ≤ channels → channels ≤ 2 → c < channels → Agree q.channels value other →
    given q channels c value ≡ given q channels c other
given_same q channels c value other some wide most here same = by_narrow (q.channels == 1 && channels == 2) refl
  where
    by_narrow : (b : Bool) → (q.channels == 1 && channels == 2) ≡ b →
        cond b (scale (value 0) (cond (c == 0) q.left q.right)) (value c) ≡ cond b (scale (other 0) (cond (c == 0) q.left q.right)) (other c)
    by_narrow true e = ap (λ v. scale v (cond (c == 0) q.left q.right)) (same 0 (omega arith))
    by_narrow false e = same c (grind (arith, nat_tests))

sent_same : (to : ℕ) (q : Route) (channels c : ℕ) (before other_before behind other_behind : ℕ → ℤ) (ss : List Send) → 1 ≤ q.channels → q.channels ≤ channels → channels ≤ 2 → c < channels →
    Agree q.channels before other_before → Agree q.channels behind other_behind → sent to q channels c before behind ss ≡ sent to q channels c other_before other_behind ss
sent_same to q channels c before other_before behind other_behind [] some wide most here same later = refl
sent_same to q channels c before other_before behind other_behind (s ∷ ss) some wide most here same later = both
    (ap (λ v. cond (s.to == to) v (pos 0)) (given_same q channels c (λ k. scale (cond s.pre (before k) (behind k)) s.gain) (λ k. scale (cond s.pre (other_before k) (other_behind k)) s.gain)
    some wide most here (λ k lt. ap (λ v. scale v s.gain) (one s.pre (same k lt) (later k lt)))))
    (sent_same to q channels c before other_before behind other_behind ss some wide most here same later)
  where
    one : {a b d e : ℤ} (p : Bool) → a ≡ b → d ≡ e → cond p a d ≡ cond p b e
    one true g h = g
    one false g h = h

fed_same : (solo : Bool) (x to channels c : ℕ) (q : Route) (input other : ℕ → ℤ) → 1 ≤ q.channels → q.channels ≤ channels → channels ≤ 2 → c < channels → Agree q.channels input other →
    fed solo x to channels c q input ≡ fed solo x to channels c q other
fed_same solo x to channels c q input other some wide most here same = both
    (ap (λ v. cond (leads_to to q.target) v (pos 0)) (given_same q channels c (λ k. post solo q x (input k)) (λ k. post solo q x (other k))
    some wide most here (λ k lt. ap (post solo q x) (same k lt))))
    (sent_same to q channels c (λ k. pre solo q (input k)) (λ k. pre solo q (other k)) (λ k. post solo q x (input k)) (λ k. post solo q x (other k)) q.sends
    some wide most here (λ k lt. ap (pre solo q) (same k lt)) (λ k lt. ap (post solo q x) (same k lt)))

-- ---- what all routes of a list give

-- what stands of the routes of a list that lead to one, from place f on
abbrev AllAgree : ℕ → ℕ → (ℕ → ℕ → ℤ) → (ℕ → ℕ → ℤ) → ℕ → List Route → Type 0
AllAgree to channels inputs others f [] = Unit {0}
AllAgree to channels inputs others f (q ∷ qs) =
    (feeds q to ≡ true → (1 ≤ q.channels) × (q.channels ≤ channels) × Agree q.channels (inputs f) (others f)) × AllAgree to channels inputs others (suc f) qs

fed_by_same : (solo : Bool) (x to channels c f : ℕ) (inputs others : ℕ → ℕ → ℤ) (qs : List Route) → channels ≤ 2 → c < channels → AllAgree to channels inputs others f qs →
    fed_by solo x to channels c inputs f qs ≡ fed_by solo x to channels c others f qs
fed_by_same solo x to channels c f inputs others [] most here all = refl
fed_by_same solo x to channels c f inputs others (q ∷ qs) most here all = both
    (by_test (feeds q to)
    (λ e. let one = all.0 e in fed_same solo x to channels c q (inputs f) (others f) one.0 one.1 most here one.2)
    (λ e. only_links_feed solo x to channels c q (inputs f) e ∙ sym (only_links_feed solo x to channels c q (others f) e)))
    (fed_by_same solo x to channels c (suc f) inputs others qs most here all.1)

-- ---- the inputs, at any depth

all_agree : (routes : List Route) (to : ℕ) (r : Route) (inputs others : ℕ → ℕ → ℤ) → LeadsWide routes → slice_get routes to ≡ Some r →
    ((f : ℕ) (q : Route) → slice_get routes f ≡ Some q → Agree q.channels (inputs f) (others f)) →
    (f : ℕ) (qs : List Route) → ((i : ℕ) → slice_get qs i ≡ slice_get routes (f + i)) → AllAgree to r.channels inputs others f qs
all_agree routes to r inputs others leads there same f [] rest = tt
all_agree routes to r inputs others leads there same f (q ∷ qs) rest = (
  (λ e. ((leads.some f q here).0, leads.wide f to q r here there e, same f q here)),
  all_agree routes to r inputs others leads there same (suc f) qs (λ i. rest (suc i) ∙ ap (slice_get routes) (next i)),
)
  where
    here : slice_get routes f ≡ Some q
    here = ap (slice_get routes) (first f) ∙ sym (rest 0)
      where
        first : (n : ℕ) → n ≡ n + 0
        first n = omega arith

    next : (i : ℕ) → f + suc i ≡ suc f + i
    next i = omega arith

module _ (routes : List Route) (samples others : ℕ → ℕ → ℤ) (x : ℕ) (leads : LeadsWide routes) (own : AgreeOnOwn routes samples others) where
  here_same : (inputs other_inputs : ℕ → ℕ → ℤ) (to c : ℕ) (r : Route) (track : Option ℕ) → r.track ≡ track → slice_get routes to ≡ Some r → c < r.channels →
      ((f : ℕ) (q : Route) → slice_get routes f ≡ Some q → Agree q.channels (inputs f) (other_inputs f)) →
      taken_in routes samples x inputs to r.channels track c ≡ taken_in routes others x other_inputs to r.channels track c
  here_same inputs other_inputs to c r (Some t) is there near same = own to t c r there is near
  here_same inputs other_inputs to c r None is there near same = ap clip (fed_by_same (any_solo routes) x to r.channels c 0 inputs other_inputs routes (leads.some to r there).1 near
      (all_agree routes to r inputs other_inputs leads there same 0 routes (λ i. ap (slice_get routes) (from_none i))))
    where
      from_none : (i : ℕ) → i ≡ 0 + i
      from_none i = omega arith

  input_same : (deep to c : ℕ) (r : Route) → slice_get routes to ≡ Some r → c < r.channels → input_within deep routes samples x to c ≡ input_within deep routes others x to c
  unfolding input_within
  input_same zero to c r there near = refl
  input_same (suc deep) to c r there near = input-step routes samples x deep to c
      ∙ ap (λ o. input_here routes samples x (input_within deep routes samples x) to o c) there
      ∙ here_same (input_within deep routes samples x) (input_within deep routes others x) to c r r.track refl there near (λ f q at k lt. input_same deep f k q at lt)
      ∙ sym (ap (λ o. input_here routes others x (input_within deep routes others x) to o c) there)
      ∙ sym (input-step routes others x deep to c)

pub only_own_channels : OnlyOwnChannels
only_own_channels routes samples others x place c r leads own there near = ap (λ v. post_of (any_solo routes) x v (slice_get routes place))
    (input_same routes samples others x leads own (length routes) place c r there near)
