-- Places that follow one another, and how far they lie.
use Rattle.std.proofs.Common.{◌≡◌, ◌≢◌, Bool, true, false, ◌&&◌, ◌==◌, nat_lt, cond, refl, Some, None, ℕ, zero, suc, ◌+◌, ◌<◌, ◌≤◌, ap, arith, subst, ◌∙◌, sym}
use Rattle.std.specs.Prelude.{IfSome}
use Rattle.std.proofs.lemmas.Bool.Decides.{nat_tests}
use Rattle.engine_model.specs.Transport.{place_of}
use Rattle.locate_loop.specs.declared.transport.Wrap.{Wrap}
use Rattle.locate_loop.specs.declared.transport.Transport.{Transport}
use Rattle.locate_loop.specs.Transport.{transport_of, IsWrap, IsTransport, place_after}
use Rattle.locate_loop.proofs.PlaceLemmas.{next_place}

-- The places of so many frames follow one another.
abbrev pub Follow : Transport → ℕ → ℕ → Type 0
Follow t place n = (k : ℕ) → k + 1 < n → place_after (transport_of t) (place + k) ≡ place + k + 1

-- without a loop, past it, and before its last place, the next place follows
pub next_without : (t : Transport) (place : ℕ) → t.wrap ≡ None → place_after (transport_of t) place ≡ place + 1
unfolding place_after
next_without t place none = rw none refl

pub next_past : (t : Transport) (w : Wrap) (place : ℕ) → t.wrap ≡ Some w → w.to ≤ t.target → place_after (transport_of t) place ≡ place + 1
unfolding place_after
next_past t w place some past = let beyond : nat_lt t.target w.to ≡ false = grind (arith, nat_tests) in rw (some, beyond) refl

pub next_before : (t : Transport) (w : Wrap) (place : ℕ) → t.wrap ≡ Some w → place + 1 ≢ w.to → place_after (transport_of t) place ≡ place + 1
unfolding place_after
next_before t w place some inner = let later : (place + 1 == w.to) ≡ false = grind (arith, nat_tests) in rw (some, later) (off (nat_lt t.target w.to))
  where
    off : (b : Bool) → cond (b && false) w.from (place + 1) ≡ place + 1
    off true = refl
    off false = refl

-- behind the last place of a loop its first follows
pub next_at_end : (t : Transport) (w : Wrap) (place : ℕ) → IsTransport t → t.wrap ≡ Some w → t.target < w.to → place + 1 ≡ w.to → place_after (transport_of t) place ≢ w.to
unfolding place_after
next_at_end t w place bounds some before last = let loop : IsWrap w = subst (λ o. IfSome o IsWrap) some bounds.wrap in
    let lies : nat_lt t.target w.to ≡ true = grind (arith, nat_tests) in let ends : (place + 1 == w.to) ≡ true = grind (arith, nat_tests) in
    rw (some, lies, ends) (λ same. absurd (omega (arith, loop.some)))

-- the k-th place on is that of the k-th frame on
pub place_on : (t : Transport) (first place n : ℕ) → IsTransport t → place ≡ place_of (transport_of t) first → Follow t place n →
    (k : ℕ) → k < n → place_of (transport_of t) (first + k) ≡ place + k
place_on t first place n bounds at follow zero below = ap (place_of (transport_of t)) {x = first + 0} {y = first} (omega arith) ∙ sym at ∙ omega arith
place_on t first place n bounds at follow (suc k) below =
    ap (place_of (transport_of t)) {x = first + suc k} {y = first + k + 1} (omega arith)
    ∙ sym (next_place t (first + k) bounds)
    ∙ ap (place_after (transport_of t)) (place_on t first place n bounds at follow k (omega arith))
    ∙ follow k (omega arith) ∙ omega arith
