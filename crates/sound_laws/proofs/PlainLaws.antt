-- A desk at unity, without solo, mute and sends: each bus and the master give the clip of a sum of clips.
use Rattle.std.proofs.Common.{◌≡◌, ℕ, zero, suc, Bool, true, false, cond, ◌&&◌, ◌||◌, refl, ap, arith, ◌∙◌, sym, subst, List, [], ◌∷◌, length, Some, None}
use Rattle.std.specs.Prelude.{ℤ, pos, ◌+ℤ◌, ◌==◌, not, is_some, slice_get}
use Rattle.std.specs.List.{AllByRecursion}
use Rattle.sound_model.specs.Numbers.{unity, scale, clip}
use Rattle.sound_model.specs.Routes.{Route, NoCycle, leads_to, any_solo, is_open, pre, post, given, sent, fed, fed_by, taken_in, input_here, input_within, route_input}
use Rattle.sound_laws.specs.Desks.{IsPlain, sum_of_clips, PlainDeskSums}
use Rattle.sound_laws.proofs.NumberLaws.{scale_unity, clip_clip, plus-zero}
use Rattle.sound_laws.proofs.DeskLaws.{post_there}
use Rattle.sound_laws.proofs.DepthLaws.{input-step, deeper_is_the_same}

plain_open : (x : ℕ) (q : Route) → IsPlain x q → is_open false q ≡ true
plain_open x q h = rw h.muted (open_by (not (is_some q.track)))
  where
    open_by : (b : Bool) → (b || true || q.soloed) ≡ true
    open_by true = refl
    open_by false = refl

no_solo : (x : ℕ) (qs : List Route) → AllByRecursion (IsPlain x) qs → any_solo qs ≡ false
no_solo x [] h = refl
no_solo x (q ∷ qs) h = rw (h.0.soloed, no_solo x qs h.1) (none (is_some q.track))
  where
    none : (b : Bool) → ((b && false) || false) ≡ false
    none true = refl
    none false = refl

plain_post : (x : ℕ) (q : Route) (v : ℤ) → IsPlain x q → post false q x v ≡ clip v
plain_post x q v h = rw (plain_open x q h, h.gain, scale_unity) refl

plain_given : (x channels c : ℕ) (q : Route) (input : ℕ → ℤ) → IsPlain x q →
    given q channels c (λ k. post false q x (input k)) ≡ clip (input (cond (q.channels == 1 && channels == 2) 0 c))
plain_given x channels c q input h = go (q.channels == 1 && channels == 2)
  where
    side : cond (c == 0) q.left q.right ≡ unity
    side = rw (h.left, h.right) (same (c == 0))
      where
        same : (b : Bool) → cond b unity unity ≡ unity
        same true = refl
        same false = refl

    go : (b : Bool) → cond b (scale (post false q x (input 0)) (cond (c == 0) q.left q.right)) (post false q x (input c)) ≡ clip (input (cond b 0 c))
    go true = rw (side, scale_unity) (plain_post x q (input 0) h)
    go false = plain_post x q (input c) h

plain_fed : (x to channels c : ℕ) (q : Route) (input : ℕ → ℤ) → IsPlain x q →
    fed false x to channels c q input ≡ cond (leads_to to q.target) (clip (input (cond (q.channels == 1 && channels == 2) 0 c))) (pos 0)
plain_fed x to channels c q input h =
    ap (λ ss. cond (leads_to to q.target) (given q channels c (λ k. post false q x (input k))) (pos 0)
    +ℤ sent to q channels c (λ k. pre false q (input k)) (λ k. post false q x (input k)) ss) h.sends
    ∙ plus-zero _
    ∙ ap (λ v. cond (leads_to to q.target) v (pos 0)) (plain_given x channels c q input h)

plain_sum : (x to channels c f : ℕ) (inputs : ℕ → ℕ → ℤ) (qs : List Route) → AllByRecursion (IsPlain x) qs →
    fed_by false x to channels c inputs f qs ≡ sum_of_clips inputs to channels c f qs
plain_sum x to channels c f inputs [] h = refl
plain_sum x to channels c f inputs (q ∷ qs) h = both (plain_fed x to channels c q (inputs f) h.0) (plain_sum x to channels c (suc f) inputs qs h.1)
  where
    both : {a b d e : ℤ} → a ≡ b → d ≡ e → a +ℤ d ≡ b +ℤ e
    both g k = cc

plain_there : (x place : ℕ) (routes : List Route) (r : Route) → slice_get routes place ≡ Some r → AllByRecursion (IsPlain x) routes → IsPlain x r
plain_there x place [] r there h = absurd (none_is_some there)
  where
    none_is_some : None ≡ Some r → ⊥
    none_is_some e = cc
plain_there x zero (q ∷ qs) r there h = let same : q ≡ r = cc in let K : Route → Type 0 = IsPlain x in subst K same h.0
plain_there x (suc place) (q ∷ qs) r there h = plain_there x place qs r there h.1

bus_input : (routes : List Route) (samples : ℕ → ℕ → ℤ) (x place c : ℕ) (r : Route) → NoCycle routes → slice_get routes place ≡ Some r → r.track ≡ None →
    route_input routes samples x place c ≡ clip (fed_by (any_solo routes) x place r.channels c (route_input routes samples x) 0 routes)
bus_input routes samples x place c r none there bus =
    sym (deeper_is_the_same routes samples x 1 place c none)
    ∙ ap (λ n. input_within n routes samples x place c) (omega arith)
    ∙ input-step routes samples x (length routes) place c
    ∙ ap (λ o. input_here routes samples x (route_input routes samples x) place o c) there
    ∙ ap (λ t. taken_in routes samples x (route_input routes samples x) place r.channels t c) bus

pub plain_desk_sums : PlainDeskSums
plain_desk_sums routes samples x place c r none plain there bus =
    post_there routes samples x place c r there
    ∙ ap (λ b. post b r x (route_input routes samples x place c)) (no_solo x routes plain)
    ∙ plain_post x r (route_input routes samples x place c) (plain_there x place routes r there plain)
    ∙ ap clip (bus_input routes samples x place c r none there bus)
    ∙ clip_clip (fed_by (any_solo routes) x place r.channels c (route_input routes samples x) 0 routes)
    ∙ ap (λ b. clip (fed_by b x place r.channels c (route_input routes samples x) 0 routes)) (no_solo x routes plain)
    ∙ ap clip (plain_sum x place r.channels c 0 (route_input routes samples x) routes plain)
