-- The rings are drained one after the other.
use Rattle.std.proofs.Common.{◌≡◌, ℕ, ◌+◌, ◌-◌, ◌<◌, ◌≤◌, List, length, set, refl, sym, ap, ◌∙◌, subst, arith, inl, inr, length-set, Result, Ok, Err, IfOk}
use Rattle.std.specs.Prelude.{Some, slice_get}
use Rattle.std.proofs.lemmas.Option.{same_Some, slice_get_within}
use mathlib.Core.Logic.{dite}
use native.Mathlib.Decide.{ℕ_discrete}
use Rattle.disk_ring.specs.Receiver.{Receiver}
use Rattle.piece_item.specs.declared.take_block.TakeBlock.{TakeBlock}
use Rattle.capture_flush.specs.Taking.{Taking}
use Rattle.capture_flush.proofs.AddedLemmas.{set_here, set_there}
use Rattle.capture_drain.specs.declared.track.TrackDrain.{TrackDrain}
use Rattle.capture_drain.specs.Drains.{IsDrained, Drains, AllDrain, HaveDrained, total_received}
use Rattle.capture_drain.specs.State.{Fits, AreFitted}
use Rattle.capture_drain.specs.OneRing.{HasDrained, IsOneDrained, HasOneTaken}
use Rattle.capture_drain.proofs.TapeLemmas.{total_set}
use Rattle.capture_drain.proofs.RingLemmas.{drains_nothing}
use Rattle.capture_drain.proofs.MediaLemmas.{no_fewer}

abbrev Ring : Type 0
Ring = Receiver TakeBlock

-- the rings before number i were drained, of so many blocks at most, and the others weren't touched
pub record SoFar (i most n : ℕ) (olds news : List Ring) : Type 0 where
  pub all : AllDrain olds news
  pub rest : (k : ℕ) → i ≤ k → slice_get news k ≡ slice_get olds k
  pub counted : total_received news ≡ total_received olds + n
  pub few : n ≤ most
  pub drained : n < most → (k : ℕ) (c b : Ring) → k < i → slice_get olds k ≡ Some c → slice_get news k ≡ Some b → IsDrained c b

pub so_far_none : (most : ℕ) (olds : List Ring) → SoFar 0 most 0 olds olds
so_far_none most olds = record {
  all = record {
    many = refl;
    each = λ t c b hc hb. subst (Drains c) (same_Some c b (sym hc ∙ hb)) (drains_nothing c);
    in_order = λ u t a d c b below ha hd hc hb. inl (same_Some b c (sym hb ∙ hc));
  };
  rest = λ k far. refl;
  counted = omega arith;
  few = omega arith;
  drained = λ more k c b near. absurd (omega arith);
}

-- what stands at the ring that was just drained
here_is : {X : Type 0} (xs : List X) (i : ℕ) (x y : X) → i < length xs → slice_get (set xs i x) i ≡ Some y → x ≡ y
here_is xs i x y near h = same_Some x y (sym (set_here xs i x near) ∙ h)

else_is : {X : Type 0} (xs : List X) (i k : ℕ) (x y : X) → (k ≡ i → ⊥) → slice_get (set xs i x) k ≡ Some y → slice_get xs k ≡ Some y
else_is xs i k x y other h = sym (set_there xs i k x other) ∙ h

-- what holds of it before and after
pair_here : (R : Ring → Ring → Type 0) (i : ℕ) (olds news : List Ring) (p q c b : Ring) → i < length news → slice_get news i ≡ slice_get olds i → slice_get news i ≡ Some p → R p q →
    slice_get olds i ≡ Some c → slice_get (set news i q) i ≡ Some b → R c b
pair_here R i olds news p q c b near rest hp r hc hb = let ec : p ≡ c = same_Some p c (sym hp ∙ rest ∙ hc) in let eb : q ≡ b = here_is news i q b near hb in
    let P : (Ring × Ring) → Type 0 = λ z. R z.0 z.1 in subst P (λ j. (ec j, eb j)) r

all_more : (i most n : ℕ) (olds news : List Ring) (p q : Ring) → SoFar i most n olds news → n < most → slice_get news i ≡ Some p → Drains p q → AllDrain olds (set news i q)
all_more i most n olds news p q so more hp drains = let near = slice_get_within news i p hp in record {
  many = length-set news i q ∙ so.all.many;
  each = λ t c b hc hb. dite (ℕ_discrete t i)
      (λ same. pair_here Drains i olds news p q c b near (so.rest i (omega arith)) hp drains (subst (λ k. slice_get olds k ≡ Some c) same hc) (subst (λ k. slice_get (set news i q) k ≡ Some b) same hb))
      (λ other. so.all.each t c b hc (else_is news i t q b other hb));
  in_order = λ u t a d c b below ha hd hc hb. dite (ℕ_discrete u i)
      (λ same. let other : t ≡ i → ⊥ = λ e. omega arith in inl (same_Some b c (sym (else_is news i t q b other hb) ∙ so.rest t (omega arith) ∙ hc)))
      (λ other. dite (ℕ_discrete t i)
      (λ same. inr (so.drained more u a d (omega arith) ha (else_is news i u q d other hd)))
      (λ apart. so.all.in_order u t a d c b below ha (else_is news i u q d other hd) hc (else_is news i t q b apart hb)));
}

so_far_more : (i most n given : ℕ) (olds news : List Ring) (p q : Ring) → SoFar i most n olds news → n < most → slice_get news i ≡ Some p → Drains p q → HasDrained (most - n) p q given →
    SoFar (i + 1) most (n + given) olds (set news i q)
so_far_more i most n given olds news p q so more hp drains took = let near = slice_get_within news i p hp in let few = took.few in record {
  all = all_more i most n olds news p q so more hp drains;
  rest = λ k far. set_there news i k q (λ e. omega arith) ∙ so.rest k (omega arith);
  counted = omega (arith, total_set news i p q hp, so.counted, took.counted);
  few = omega arith;
  drained = λ left k c b below hc hb. dite (ℕ_discrete k i)
      (λ same. pair_here IsDrained i olds news p q c b near (so.rest i (omega arith)) hp (took.done (omega arith))
      (subst (λ z. slice_get olds z ≡ Some c) same hc) (subst (λ z. slice_get (set news i q) z ≡ Some b) same hb))
      (λ other. so.drained more k c b (omega arith) hc (else_is news i k q b other hb));
}

pub answer_one : {E : Type 0} (most t : ℕ) (olds : List Ring) (p q : Ring) (r : Result ℕ E) → slice_get olds t ≡ Some p → IfOk r (HasDrained most p q) → IfOk r (HasOneTaken most t olds (set olds t q))
answer_one most t olds p q (Err e) hp took = tt
answer_one most t olds p q (Ok n) hp took = λ a b ha hb. let ea : p ≡ a = same_Some p a (sym hp ∙ ha) in let eb : q ≡ b = here_is olds t q b (slice_get_within olds t p hp) hb in
    let P : (Ring × Ring) → Type 0 = λ z. HasDrained most z.0 z.1 n in subst P (λ j. (ea j, eb j)) took

module _ (t : ℕ) (ks : List TrackDrain) (olds : List Ring) (js : List TrackDrain) (news : List Ring) (one : IsOneDrained t ks olds js news) where
  -- the ring stands in the new list
  stands : slice_get news t ≡ Some one.ring
  stands = ap (λ l. slice_get l t) one.rings ∙ set_here olds t one.ring (slice_get_within olds t one.was one.here)

  pub all_one : (most n : ℕ) (firsts : List Ring) → SoFar t most n firsts olds → n < most → AllDrain firsts news
  all_one most n firsts so more = subst (AllDrain firsts) (sym one.rings) (all_more t most n firsts olds one.was one.ring so more one.here one.drains)

  pub so_far_one : (most n given : ℕ) (firsts : List Ring) → SoFar t most n firsts olds → n < most → HasOneTaken (most - n) t olds news given → SoFar (t + 1) most (n + given) firsts news
  so_far_one most n given firsts so more took = subst (SoFar (t + 1) most (n + given) firsts) (sym one.rings)
      (so_far_more t most n given firsts olds one.was one.ring so more one.here one.drains (took one.was one.ring one.here stands))

  pub few_one : (most given : ℕ) → HasOneTaken most t olds news given → given ≤ most
  few_one most given took = (took one.was one.ring one.here stands).few

  pub no_fewer_one : total_received olds ≤ total_received news
  no_fewer_one = omega (arith, total_set olds t one.was one.was one.here, total_set olds t one.was one.ring one.here, no_fewer olds t one.was one.was one.ring one.here one.drains.goes_on, ap total_received one.rings)

  pub fitted_one : (f g : Taking) → AreFitted (record { files = f; tracks = ks }) olds → AreFitted (record { files = g; tracks = js }) news
  fitted_one f g fitted = let within = slice_get_within olds t one.was one.here in let many = fitted.many in record {
    many = ap length one.tracks ∙ length-set ks t one.kept ∙ fitted.many ∙ sym (ap length one.rings ∙ length-set olds t one.ring);
    each = λ u k r hk hr. let hk' : slice_get (set ks t one.kept) u ≡ Some k = ap (λ l. slice_get l u) (sym one.tracks) ∙ hk in
        let hr' : slice_get (set olds t one.ring) u ≡ Some r = ap (λ l. slice_get l u) (sym one.rings) ∙ hr in dite (ℕ_discrete u t)
        (λ same. let ek : one.kept ≡ k = here_is ks t one.kept k (omega arith) (subst (λ z. slice_get (set ks t one.kept) z ≡ Some k) same hk') in
        let er : one.ring ≡ r = here_is olds t one.ring r within (subst (λ z. slice_get (set olds t one.ring) z ≡ Some r) same hr') in
        let P : (TrackDrain × Ring) → Type 0 = λ z. Fits z.0 z.1 in subst P (λ j. (ek j, er j)) one.fits)
        (λ other. fitted.each u k r (else_is ks t u one.kept k other hk') (else_is olds t u one.ring r other hr'));
  }

-- all that may be taken was taken, or every ring was drained
pub have_drained_most : (i most n : ℕ) (olds news : List Ring) → most ≤ n → SoFar i most n olds news → HaveDrained most olds news n
have_drained_most i most n olds news full so = record { counted = so.counted; few = so.few; done = λ more. absurd (omega arith) }

pub have_drained_all : (i most n : ℕ) (olds news : List Ring) → length olds ≤ i → SoFar i most n olds news → HaveDrained most olds news n
have_drained_all i most n olds news end so = record {
  counted = so.counted;
  few = so.few;
  done = λ more t c b hc hb. so.drained more t c b (let near = slice_get_within olds t c hc in omega arith) hc hb;
}
