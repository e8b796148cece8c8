-- Beginnings of lists, and places in them.
use Rattle.std.proofs.Common.{◌≡◌, ℕ, zero, suc, ◌<◌, ◌≤◌, ◌⊎◌, List, [], ◌∷◌, ◌++◌, map, length, All, sym, refl, ap, ◌∙◌, inl, inr, ⊎_elim, arith, length-append, append-nil}
use mathlib.Core.List.{IsPrefix, cons≢nil}
use mathlib.Core.Option.{some, some-injective, some-ne-none}
use lib.ListN.{get_elem?}
use Rattle.std.proofs.lemmas.List.{nil_from_length}

module _ {A : Type 0} where
  pub begins_length : (xs ys : List A) → IsPrefix xs ys → length xs ≤ length ys
  begins_length xs ys h = let e = ap length (sym h.1) ∙ length-append xs h.0 in omega arith

  -- a beginning that is as long is the list
  pub whole : (xs ys : List A) → IsPrefix xs ys → length xs ≡ length ys → xs ≡ ys
  whole xs ys h e = let long = ap length (sym h.1) ∙ length-append xs h.0 in
      let none : h.0 ≡ [] = nil_from_length h.0 (omega arith) in sym (append-nil xs) ∙ ap (λ (z : List A). xs ++ z) (sym none) ∙ h.1

  tail : List A → List A
  tail [] = []
  tail (x ∷ xs) = xs

  head_or : A → List A → A
  head_or d [] = d
  head_or d (x ∷ xs) = x

  -- of two beginnings of a list the shorter begins the longer
  pub shorter : (xs ys zs : List A) → IsPrefix xs zs → IsPrefix ys zs → length xs ≤ length ys → IsPrefix xs ys
  unfolding tail head_or
  shorter [] ys zs h k le = (ys, refl)
  shorter (x ∷ xs) [] zs h k le = absurd (omega arith)
  shorter (x ∷ xs) (y ∷ ys) zs h k le = let e : x ≡ y = ap (head_or x) (h.1 ∙ sym k.1) in
      let t = shorter xs ys (tail zs) (h.0, ap tail h.1) (k.0, ap tail k.1) (omega arith) in (t.0, λ i. e i ∷ t.1 i)

  -- a beginning goes on with the item after it
  pub next_at : (xs ys : List A) (k : ℕ) (a : A) → IsPrefix xs ys → length xs ≡ k → get_elem? ys k ≡ some a → IsPrefix (xs ++ a ∷ []) ys
  unfolding tail head_or
  next_at [] [] k a h e at = absurd (some-ne-none a (sym at))
  next_at [] (y ∷ ys) zero a h e at = (ys, λ i. sym (some-injective y a at) i ∷ ys)
  next_at [] (y ∷ ys) (suc k) a h e at = absurd (omega arith)
  next_at (x ∷ xs) [] k a h e at = absurd (cons≢nil h.1)
  next_at (x ∷ xs) (y ∷ ys) zero a h e at = absurd (omega arith)
  next_at (x ∷ xs) (y ∷ ys) (suc k) a h e at = let t = next_at xs ys k a (h.0, ap tail h.1) (omega arith) at in let e : x ≡ y = ap (head_or x) h.1 in (t.0, λ i. e i ∷ t.1 i)

  -- a new seat is the last, or else it was there
  pub last_at : (l : List A) (a b : A) (j : ℕ) → get_elem? (l ++ a ∷ []) j ≡ some b → (get_elem? l j ≡ some b) ⊎ ((j ≡ length l) × (a ≡ b))
  last_at [] a b zero e = inr (refl, some-injective a b e)
  last_at [] a b (suc j) e = absurd (some-ne-none b (sym e))
  last_at (x ∷ xs) a b zero e = inl e
  last_at (x ∷ xs) a b (suc j) e = ⊎_elim (λ t. inl t) (λ t. inr (ap suc t.0, t.1)) (last_at xs a b j e)

  -- each place of a list has its item
  pub item_there : (P : A → Type 0) (xs : List A) (i : ℕ) → All P xs → i < length xs → (a : A) × (get_elem? (map some xs) i ≡ some (some a)) × P a
  item_there P [] i all h = absurd (omega arith)
  item_there P (x ∷ xs) zero all h = (x, refl, all 0 x (omega arith))
  item_there P (x ∷ xs) (suc i) all h = item_there P xs i (λ k d near. all (suc k) d (omega arith)) (omega arith)
