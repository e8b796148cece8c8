-- Tests of whole lists.
use Rattle.std.proofs.Common.{◌≡◌, ℕ, zero, suc, ◌<◌, ◌≤◌, List, [], ◌∷◌, length, refl, arith}
use Rattle.std.specs.Prelude.{Bool, true, false, ◌||◌, not, nat_lt, nat_le, nat_eq, if◌then◌else◌, Option, Some, None, slice_get}
use Rattle.std.specs.List.{list_all}
use Rattle.std.proofs.lemmas.Bool.{and_parts, and_from, lt-ltb, le-leb, or_left, or_right, eq-eqb, not_from_false}
use Rattle.engine_model.specs.Due.{greater, greatest, past}
use Rattle.engine_model.specs.Items.{among}

pub all_weaken : {A : Type 0} (p q : A → Bool) → ((x : A) → p x ≡ true → q x ≡ true) → (xs : List A) → list_all p xs ≡ true → list_all q xs ≡ true
all_weaken p q f [] h = refl
all_weaken p q f (x ∷ xs) h = let parts = and_parts (p x) (list_all p xs) h in
    and_from (q x) (list_all q xs) (f x parts.0) (all_weaken p q f xs parts.1)

pub all_below : (low m : ℕ) (xs : List ℕ) → past low xs ≤ m → list_all (λ s. nat_lt s m) xs ≡ true
all_below low m [] h = refl
all_below low m (x ∷ xs) h = and_from (nat_lt x m) (list_all (λ s. nat_lt s m) xs) (lt-ltb x m (grind (arith))) (all_below low m xs (grind (arith)))

-- what `greatest` finds
abbrev pub Found : (ℕ → Bool) → List ℕ → Option ℕ → Type 0
Found p xs None = list_all (λ r. not (p r)) xs ≡ true
Found p xs (Some s) = (p s ≡ true) × (among s xs ≡ true) × (list_all (λ r. nat_le r s || not (p r)) xs ≡ true)

found_greater : (p : ℕ → Bool) (x : ℕ) (xs : List ℕ) (y : ℕ) (c : Bool) → p x ≡ true → nat_le x y ≡ c → Found p xs (Some y) → Found p (x ∷ xs) (Some (if c then y else x))
found_greater p x xs y true e le f = (f.0, or_right (nat_eq x y) (among y xs) f.1, and_from (nat_le x y || not (p x)) (list_all (λ r. nat_le r y || not (p r)) xs) (or_left (nat_le x y) (not (p x)) le) f.2)
found_greater p x xs y false e le f = (
  e,
  or_left (nat_eq x x) (among x xs) (eq-eqb x x refl),
  and_from (nat_le x x || not (p x)) (list_all (λ r. nat_le r x || not (p r)) xs) (or_left (nat_le x x) (not (p x)) (le-leb x x (omega arith)))
      (all_weaken (λ r. nat_le r y || not (p r)) (λ r. nat_le r x || not (p r)) (λ r h. grind (arith, h, le)) xs f.2),
)

found_step : (p : ℕ → Bool) (x : ℕ) (xs : List ℕ) (o : Option ℕ) (b : Bool) → p x ≡ b → Found p xs o → Found p (x ∷ xs) (greater b x o)
found_step p x xs None false e f = and_from (not (p x)) (list_all (λ r. not (p r)) xs) (not_from_false (p x) e) f
found_step p x xs (Some s) false e f = (f.0, or_right (nat_eq x s) (among s xs) f.1, and_from (nat_le x s || not (p x)) (list_all (λ r. nat_le r s || not (p r)) xs) (or_right (nat_le x s) (not (p x)) (not_from_false (p x) e)) f.2)
found_step p x xs None true e f = (
  e,
  or_left (nat_eq x x) (among x xs) (eq-eqb x x refl),
  and_from (nat_le x x || not (p x)) (list_all (λ r. nat_le r x || not (p r)) xs) (or_left (nat_le x x) (not (p x)) (le-leb x x (omega arith)))
      (all_weaken (λ r. not (p r)) (λ r. nat_le r x || not (p r)) (λ r h. or_right (nat_le r x) (not (p r)) h) xs f),
)
found_step p x xs (Some y) true e f = found_greater p x xs y (nat_le x y) e refl f

pub found : (p : ℕ → Bool) (xs : List ℕ) → Found p xs (greatest p xs)
found p [] = refl
found p (x ∷ xs) = found_step p x xs (greatest p xs) (p x) refl (found p xs)

-- there is an item at each place within
pub item_at : {X : Type 0} (xs : List X) (i : ℕ) → i < length xs → (x : X) × (slice_get xs i ≡ Some x)
item_at [] i lt = absurd (omega arith)
item_at (x ∷ xs) zero lt = (x, refl)
item_at (x ∷ xs) (suc i) lt = item_at xs i (omega arith)
