-- Lists of which one place, or every place, is changed.
use Rattle.std.proofs.Common.{◌≡◌, ℕ, zero, suc, List, [], ◌∷◌, length, refl, ap, sym, subst, ◌∙◌, arith}
use Rattle.std.specs.Prelude.{Bool, true, false, Some, slice_get, map}
use Rattle.std.specs.Option.{option_map_or}
use Rattle.std.proofs.lemmas.Bool.{false≢true}
use Rattle.std.proofs.lemmas.Option.{none-some, same_Some}
use Rattle.session_model.specs.Lists.{EachAt}
use Rattle.engine_model.specs.Changes.{changed_at}

-- what holds of each item, where one is changed
pub each_changed : {X : Type 0} (Q : ℕ → X → Type 0) (f : X → X) (t : ℕ) (xs : List X) → EachAt Q xs → ((x : X) → slice_get xs t ≡ Some x → Q t (f x)) → EachAt Q (changed_at f t xs)
each_changed Q f t [] each here i x e = absurd (none-some x e)
each_changed Q f zero (y ∷ ys) each here zero x e = subst (Q 0) (same_Some (f y) x e) (here y refl)
each_changed Q f zero (y ∷ ys) each here (suc i) x e = each (suc i) x e
each_changed Q f (suc t) (y ∷ ys) each here zero x e = each 0 x e
each_changed Q f (suc t) (y ∷ ys) each here (suc i) x e = each_changed (λ j. Q (suc j)) f t ys (λ j. each (suc j)) here i x e

-- and where all are
pub each_mapped : {X Y : Type 0} (Q : ℕ → Y → Type 0) (f : X → Y) (xs : List X) → EachAt (λ i x. Q i (f x)) xs → EachAt Q (map f xs)
each_mapped Q f [] each i y e = absurd (none-some y e)
each_mapped Q f (x ∷ xs) each zero y e = subst (Q 0) (same_Some (f x) y e) (each 0 x refl)
each_mapped Q f (x ∷ xs) each (suc i) y e = each_mapped (λ j. Q (suc j)) f xs (λ j. each (suc j)) i y e

pub long_changed : {X : Type 0} (f : X → X) (t : ℕ) (xs : List X) → length (changed_at f t xs) ≡ length xs
long_changed f t [] = refl
long_changed f zero (x ∷ xs) = refl
long_changed f (suc t) (x ∷ xs) = ap suc (long_changed f t xs)

-- the item at a place that a test found
pub at_place : {X : Type 0} (xs : List X) (t : ℕ) (p : X → Bool) → option_map_or p (slice_get xs t) false ≡ true → (x : X) × (slice_get xs t ≡ Some x) × (p x ≡ true)
at_place [] t p e = absurd (false≢true e)
at_place (x ∷ xs) zero p e = (x, refl, e)
at_place (x ∷ xs) (suc t) p e = at_place xs t p e

-- an item of a mapped list is one of the list
pub of_mapped : {X Y : Type 0} (f : X → Y) (xs : List X) (i : ℕ) (y : Y) → slice_get (map f xs) i ≡ Some y → (x : X) × (slice_get xs i ≡ Some x) × (y ≡ f x)
of_mapped f [] i y e = absurd (none-some y e)
of_mapped f (x ∷ xs) zero y e = (x, refl, sym (same_Some (f x) y e))
of_mapped f (x ∷ xs) (suc i) y e = of_mapped f xs i y e

pub is_mapped : {X Y : Type 0} (f : X → Y) (xs : List X) (i : ℕ) (x : X) → slice_get xs i ≡ Some x → slice_get (map f xs) i ≡ Some (f x)
is_mapped f [] i x e = absurd (none-some x e)
is_mapped f (y ∷ ys) zero x e = ap (λ o. Some (f o)) (same_Some y x e)
is_mapped f (y ∷ ys) (suc i) x e = is_mapped f ys i x e

-- a list of the same length has an item there too
pub also_there : {X Y : Type 0} (xs : List X) (ys : List Y) (i : ℕ) (x : X) → length xs ≡ length ys → slice_get xs i ≡ Some x → (y : Y) × (slice_get ys i ≡ Some y)
also_there [] ys i x many e = absurd (none-some x e)
also_there (x' ∷ xs) [] i x many e = absurd (grind (arith, many))
also_there (x' ∷ xs) (y ∷ ys) zero x many e = (y, refl)
also_there (x' ∷ xs) (y ∷ ys) (suc i) x many e = also_there xs ys i x (grind (arith, many)) e

-- a change at a place that a map doesn't see
pub same_mapped : {X Y : Type 0} (g : X → Y) (f : X → X) (t : ℕ) (xs : List X) → ((x : X) → slice_get xs t ≡ Some x → g (f x) ≡ g x) → map g (changed_at f t xs) ≡ map g xs
same_mapped g f t [] same = refl
same_mapped g f zero (x ∷ xs) same = ap (λ y. y ∷ map g xs) (same x refl)
same_mapped g f (suc t) (x ∷ xs) same = ap (λ ys. g x ∷ ys) (same_mapped g f t xs same)

pub same_twice : {X Y : Type 0} (g : X → Y) (f : X → X) (xs : List X) → ((x : X) → g (f x) ≡ g x) → map g (map f xs) ≡ map g xs
same_twice g f [] same = refl
same_twice g f (x ∷ xs) same = ap (λ y. y ∷ map g (map f xs)) (same x) ∙ ap (λ ys. g x ∷ ys) (same_twice g f xs same)
