-- Words on lists whose items have places, and their tests.
use Rattle.std.specs.Prelude.{◌≡◌, ◌≢◌, ℕ, suc, Bool, true, not, ◌&&◌, List, [], ◌∷◌, AllPairs, slice_get, Some}
use Rattle.std.specs.List.{list_all}

-- P holds of each item with its place
abbrev pub EachAt : {X : Type 0} → (ℕ → X → Type 0) → List X → Type 0
EachAt {X} P xs = (i : ℕ) (x : X) → slice_get xs i ≡ Some x → P i x

-- the items pass a test with their places, of which the first is i
abbrev pub each_from : {X : Type 0} → (ℕ → X → Bool) → ℕ → List X → Bool
each_from p i [] = true
each_from p i (x ∷ xs) = p i x && each_from p (suc i) xs

-- no two items are equal
abbrev pub AreApart : {X : Type 0} → List X → Type 0
AreApart xs = AllPairs (λ x y. x ≢ y) xs

abbrev pub are_apart : {X : Type 0} → (X → X → Bool) → List X → Bool
are_apart same [] = true
are_apart same (x ∷ xs) = list_all (λ y. not (same x y)) xs && are_apart same xs
