-- Lists that are read backwards, and fronts of lists.
use Rattle.std.proofs.Common.{◌≡◌, ℕ, zero, suc, List, [], ◌∷◌, ◌++◌, length, refl, ap, ◌∙◌, sym, subst, take, drop, slice_index_or, ◌<◌, ◌+◌, arith}
use Rattle.std.specs.Prelude.{Bool, true, ◌&&◌, map, reverse}
use Rattle.std.specs.List.{list_all}
use Rattle.std.proofs.lemmas.List.{map-append, reverse-append, get_or_push, get_or_append_left}
use Rattle.std.proofs.lemmas.Grind.{common_steps}
use mathlib.Core.Logic.{dite}
use native.Mathlib.Decide.{ℕ_discrete}

-- the last of a list is the first of it backwards
pub last_first : {X Y : Type 0} (f : X → Y) (xs : List X) (x : X) → reverse (map f (xs ++ x ∷ [])) ≡ f x ∷ reverse (map f xs)
last_first f xs x = ap reverse (map-append f xs (x ∷ [])) ∙ reverse-append (map f xs) (f x ∷ [])

-- what follows a front part
pub past_front : {X : Type 0} (xs ys : List X) → drop (length xs) (xs ++ ys) ≡ ys
past_front [] ys = refl
past_front (x ∷ xs) ys = past_front xs ys

rest : (b c : Bool) → (b && c) ≡ true → c ≡ true
rest b c e = grind (arith, e)

-- an item of a list whose items were all changed
pub mapped_at : {X Y : Type 0} (f : X → Y) (xs : List X) (k : ℕ) (x : X) (y : Y) → k < length xs → slice_index_or (map f xs) k y ≡ f (slice_index_or xs k x)
mapped_at f [] k x y within = absurd (omega arith)
mapped_at f (z ∷ xs) zero x y within = refl
mapped_at f (z ∷ xs) (suc k) x y within = mapped_at f xs k x y (omega arith)

-- one more item that passes, at the end
pub all_and_last : {X : Type 0} (f : X → Bool) (xs : List X) (x : X) → list_all f xs ≡ true → f x ≡ true → list_all f (xs ++ x ∷ []) ≡ true
all_and_last f [] x all last = grind (arith, last)
all_and_last f (y ∷ ys) x all last = grind (arith, all, all_and_last f ys x (rest (f y) (list_all f ys) all) last)

-- what holds of each item and of one more holds of each item of the longer list
pub each_and_last : {X : Type 0} (P : ℕ → X → Type 0) (xs : List X) (x : X) (n : ℕ) → length xs ≡ n → ((t : ℕ) (d : X) → t < n → P t (slice_index_or xs t d)) → P n x
    → (t : ℕ) (d : X) → t < n + 1 → P t (slice_index_or (xs ++ x ∷ []) t d)
each_and_last P xs x n long each last t d within = dite (ℕ_discrete t n)
    (λ e. subst (λ k. P k (slice_index_or (xs ++ x ∷ []) k d)) (sym e) (subst (P n) (sym (get_or_push xs x d n long)) last))
    (λ other. subst (P t) (sym (get_or_append_left xs (x ∷ []) d t (omega (arith, long, within, other)))) (each t d (omega (arith, within, other))))

-- what a slice of a whole list leaves in it
pub rewritten : {X : Type 0} (n : ℕ) (new old : List X) → length new ≡ n → take n (new ++ drop (length new) old) ≡ new
rewritten n new old long = grind (arith, long, common_steps)
