-- A lane that is written as pairs is read as that lane.
use Rattle.std.proofs.Common.{◌≡◌, ℕ, ◌<◌, ◌-◌, ◌≤◌, ◌^◌, true, false, nat_lt, refl, ap, arith, List, [], ◌∷◌, length, map, All, Option, Some, None}
use Rattle.std.specs.Prelude.{Ok}
use Rattle.std.specs.List.{list_all}
use Rattle.std.proofs.lemmas.Bool.Decides.{nat_tests}
use Rattle.std.proofs.lemmas.List.Elements.{All-head, All-tail}
use Rattle.sound_model.specs.Lanes as sound
use Rattle.ses_units.specs.Lane.{IsLane}
use Rattle.ses_units.specs.Point.{points_of}
use Rattle.ses_units.specs.Refusal.{first_far, first_fall, first_refusal, IsBroken}
use Rattle.ses_units.specs.declared.point.Point.{Point}
use Rattle.ses_units.specs.declared.refusal.LaneRefusal.TheVariants.{Far, NotRising}
use Rattle.ses_units.proofs.RefusalLemmas.{IsBroken-refused}
use Rattle.session_model.specs.declared.key.Key.TheVariants as key
use Rattle.session_walk.specs.Section.{Section, value_at}
use Rattle.session_walk.specs.Arrays.{each}
use Rattle.session_walk.specs.Lane.{is_pair, point_of, lane}
use Rattle.session_walk.proofs.TableLaws.{items_listed}
use Rattle.session_text.specs.Tables.{pair, pairs}
use Rattle.session_text.proofs.KeyLaws.{ranged}

-- ---- no rule of lanes refuses a lane

none-far : (points : List sound.Point) → IsLane points → (o : Option ℕ) → first_far points ≡ o → o ≡ None
none-far points h None e = refl
none-far points h (Some i) e = absurd (far (IsBroken-refused points (Far i) (refused e)))
  where
    few : nat_lt 1024 (length points) ≡ false
    few = let l : length points ≤ 1024 = h.few in grind (arith, nat_tests)

    refused : first_far points ≡ Some i → first_refusal points ≡ Some (Far i)
    refused e = rw (few, e) refl

    far : IsBroken points (Far i) → ⊥
    far broken = let first = broken.1 in let d : sound.Point = record { at = 0; gain = 0 } in let near = h.near i d first.within in let past = first.far d in omega arith

none-falls : (points : List sound.Point) → IsLane points → first_far points ≡ None → (o : Option ℕ) → first_fall points ≡ o → o ≡ None
none-falls points h none None e = refl
none-falls points h none (Some i) e = absurd (falls (IsBroken-refused points (NotRising i) (rw (few, none, e) refl)))
  where
    few : nat_lt 1024 (length points) ≡ false
    few = let l : length points ≤ 1024 = h.few in grind (arith, nat_tests)

    falls : IsBroken points (NotRising i) → ⊥
    falls broken =
        let first = broken.2 in
        let d : sound.Point = record { at = 0; gain = 0 } in
        let after : 0 < i = first.follows in
        let back = first.falls d in
        let on = h.rising (i - 1) i d (omega arith) first.within in
        omega arith

pub not-refused : (points : List sound.Point) → IsLane points → first_refusal points ≡ None
not-refused points h =
    let l : length points ≤ 1024 = h.few in
    let few : nat_lt 1024 (length points) ≡ false = grind (arith, nat_tests) in
    let far = none-far points h (first_far points) refl in
    let fall = none-falls points h far (first_fall points) refl in
    rw (few, far, fall) refl

-- ---- the pairs of a lane are its points

abbrev as_point : sound.Point → Point
as_point p = record { at = p.at; gain = p.gain }

are-pairs : (points : List sound.Point) → list_all is_pair (map pair points) ≡ true
are-pairs [] = refl
are-pairs (p ∷ ps) = are-pairs ps

points-read : (points : List sound.Point) → All (λ p. p.at < 2 ^ 40) points → All (λ p. p.gain ≤ 262144) points → each point_of (map pair points) ≡ Some (map as_point points)
points-read [] near quiet = refl
points-read (p ∷ ps) near quiet =
    let at : p.at < 2 ^ 40 = All-head (λ p. p.at < 2 ^ 40) p ps near in
    let gain : p.gain ≤ 262144 = All-head (λ p. p.gain ≤ 262144) p ps quiet in
    let rest = points-read ps (All-tail (λ p. p.at < 2 ^ 40) p ps near) (All-tail (λ p. p.gain ≤ 262144) p ps quiet) in
    rw (ranged 0 1099511627775 p.at (omega arith) (omega arith), ranged 0 262144 p.gain (omega arith) gain, rest) refl

points-same : (points : List sound.Point) → points_of (map as_point points) ≡ points
points-same [] = refl
points-same (p ∷ ps) = ap (λ qs. p ∷ qs) (points-same ps)

pub lane-read : (s : Section) (points : List sound.Point) → value_at s key.Lane ≡ Some (pairs points) → IsLane points → lane s ≡ Ok points
unfolding lane
lane-read s points stands h = rw (
  stands,
  items_listed (map pair points),
  are-pairs points,
  points-read points h.near h.quiet,
  points-same points,
  not-refused points h,
) refl
