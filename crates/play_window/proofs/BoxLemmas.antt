-- An element of a list after a write, and boxes of one room.
use Rattle.std.proofs.Common.{◌≡◌, ◌≢◌, ℕ, zero, suc, ◌<◌, List, [], ◌∷◌, length, set, take, drop, ◌++◌, Box, refl, sym, ap, ◌∙◌, arith}
use Rattle.std.specs.Prelude.{Some, slice_get, Bool, true, false, if◌then◌else◌}
use Rattle.std.specs.Global.{Global}
use Rattle.std.proofs.lemmas.Grind.{common_steps}
use Rattle.std.proofs.lemmas.Option.{get_or_from_slice_get, slice_get_within}
use Rattle.disk_ring.specs.Rings.{AllOfRoom}

pub get_written : {X : Type 0} (xs : List X) (i : ℕ) (y : X) → i < length xs → slice_get (set xs i y) i ≡ Some y
get_written [] i y within = absurd (omega arith)
get_written (x ∷ xs) zero y within = refl
get_written (x ∷ xs) (suc i) y within = get_written xs i y (omega arith)

pub get_other : {X : Type 0} (xs : List X) (i j : ℕ) (y : X) → i ≢ j → slice_get (set xs j y) i ≡ slice_get xs i
get_other [] i j y other = refl
get_other (x ∷ xs) zero zero y other = absurd (other refl)
get_other (x ∷ xs) zero (suc j) y other = refl
get_other (x ∷ xs) (suc i) zero y other = refl
get_other (x ∷ xs) (suc i) (suc j) y other = get_other xs i j y (λ e. other (ap suc e))

-- a choice whose test is known
pub unless : {X : Type 0} (b : Bool) (x y : X) → b ≡ false → (if b then x else y) ≡ y
unless true x y e = cc
unless false x y e = refl

pub when : {X : Type 0} (b : Bool) (x y : X) → b ≡ true → (if b then x else y) ≡ x
when true x y e = refl
when false x y e = cc

-- each of these boxes has the room
pub room_at : {X : Type 0} (room_of : X → ℕ) (room : ℕ) (boxes : List (Box X Global)) (i : ℕ) (b : Box X Global) → AllOfRoom room_of room boxes → slice_get boxes i ≡ Some b → room_of b.value ≡ room
room_at room_of room boxes i b all at = ap (λ x. room_of x.value) (sym (get_or_from_slice_get boxes i b b at)) ∙ all i b (slice_get_within boxes i b at)

-- what a slice of a whole list leaves in it
pub rewritten : {X : Type 0} (n : ℕ) (new old : List X) → length new ≡ n → take n (new ++ drop (length new) old) ≡ new
rewritten n new old long = grind (arith, common_steps)
