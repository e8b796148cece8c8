-- Lists of events one after another, and lists of which one place is changed.
use Rattle.std.proofs.Common.{◌≡◌, ℕ, zero, suc, List, [], ◌∷◌, ◌++◌, length, refl, sym, ap, ◌∙◌}
use Rattle.std.specs.Prelude.{Bool, true, ◌&&◌, Some, slice_get, reverse}
use Rattle.std.specs.List.{list_all}
use Rattle.std.proofs.lemmas.Bool.{and_parts, and_from}
use Rattle.std.proofs.lemmas.List.{reverse-append}
use Rattle.std.proofs.lemmas.List.Folds.{list_all-append}
use Rattle.std.proofs.lemmas.Option.{none-some, same_Some}
use Rattle.session_model.specs.declared.session.Session.{Session}
use Rattle.engine_model.specs.Changes.{changed_at}
use Rattle.machine_model.specs.Core.{Core}
use Rattle.machine_model.specs.Events.{Event, step, after}

pub after_append : (session : Session) (cycles : ℕ) (c : Core) (xs ys : List Event) → after session cycles c (xs ++ ys) ≡ after session cycles (after session cycles c xs) ys
after_append session cycles c [] ys = refl
after_append session cycles c (x ∷ xs) ys = after_append session cycles (step session cycles c x) xs ys

pub changed_nothing : {X : Type 0} (t : ℕ) (xs : List X) → changed_at (λ x. x) t xs ≡ xs
changed_nothing t [] = refl
changed_nothing zero (x ∷ xs) = refl
changed_nothing (suc t) (x ∷ xs) = ap (λ ys. x ∷ ys) (changed_nothing t xs)

pub changed_twice : {X : Type 0} (f g : X → X) (t : ℕ) (xs : List X) → changed_at f t (changed_at g t xs) ≡ changed_at (λ x. f (g x)) t xs
changed_twice f g t [] = refl
changed_twice f g zero (x ∷ xs) = refl
changed_twice f g (suc t) (x ∷ xs) = ap (λ ys. x ∷ ys) (changed_twice f g t xs)

pub changed_there : {X : Type 0} (f : X → X) (pre : List X) (x : X) (xs : List X) → changed_at f (length pre) (pre ++ x ∷ xs) ≡ pre ++ f x ∷ xs
changed_there f [] x xs = refl
changed_there f (y ∷ pre) x xs = ap (λ ys. y ∷ ys) (changed_there f pre x xs)

pub slice_there : {X : Type 0} (pre : List X) (x : X) (xs : List X) → slice_get (pre ++ x ∷ xs) (length pre) ≡ Some x
slice_there [] x xs = refl
slice_there (y ∷ pre) x xs = slice_there pre x xs

pub changed_slice : {X : Type 0} (f : X → X) (t : ℕ) (xs : List X) (x : X) → slice_get xs t ≡ Some x → slice_get (changed_at f t xs) t ≡ Some (f x)
changed_slice f t [] x there = absurd (none-some x there)
changed_slice f zero (y ∷ ys) x there = ap (λ z. Some (f z)) (same_Some y x there)
changed_slice f (suc t) (y ∷ ys) x there = changed_slice f t ys x there

pub all_both : {X : Type 0} (p : X → Bool) (xs ys : List X) → list_all p (xs ++ ys) ≡ true → (list_all p xs ≡ true) × (list_all p ys ≡ true)
all_both p xs ys h = and_parts (list_all p xs) (list_all p ys) (sym (list_all-append p xs ys) ∙ h)

pub all_reversed : {X : Type 0} (p : X → Bool) (xs : List X) → list_all p xs ≡ true → list_all p (reverse xs) ≡ true
all_reversed p [] h = refl
all_reversed p (x ∷ xs) h = let parts = and_parts (p x) (list_all p xs) h in ap (list_all p) (reverse-append (x ∷ []) xs) ∙ list_all-append p (reverse xs) (x ∷ [])
    ∙ and_from (list_all p (reverse xs)) (p x && true) (all_reversed p xs parts.1) (and_from (p x) true parts.0 refl)
