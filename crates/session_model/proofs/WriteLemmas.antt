-- What the calls of a playlist find and write back is what lies at a region's place.
use Rattle.std.proofs.Common.{◌≡◌, ℕ, ◌≤◌, ◌<◌, Bool, true, false, refl, ap, sym, ◌∙◌, arith, length-append, List, [], ◌∷◌, ◌++◌, length, take, drop, insert, remove, position, get_or, Some, None, nat_lt}
use Rattle.std.specs.List.{position_or_len}
use Rattle.std.specs.Option.{unwrap_or}
use Rattle.std.proofs.lemmas.Bool.Decides.{nat_tests}
use Rattle.std.proofs.lemmas.List.{take_at}
use Rattle.sound_model.specs.Layers.{is_below, with_region}
use Rattle.session_model.specs.declared.region.Region.{Region}
use Rattle.session_model.specs.Region.{region_of, regions_of}
use Rattle.session_model.proofs.Cases.{by_test}
use Rattle.session_model.proofs.PlaceLemmas.{here, later, with_region-insert}

-- ---- what `position` answers

pub position-found : {X : Type 0} (p : X → Bool) (xs : List X) (i : ℕ) → position p xs ≡ Some i → (position_or_len p xs ≡ i) × (position_or_len p xs < length xs)
position-found p xs i e = by_test (nat_lt (position_or_len p xs) (length xs))
    (λ t. (same t, grind (arith, nat_tests)))
    (λ t. absurd (nothing t))
  where
    same : nat_lt (position_or_len p xs) (length xs) ≡ true → position_or_len p xs ≡ i
    same t = cc (rw t at e)

    nothing : nat_lt (position_or_len p xs) (length xs) ≡ false → ⊥
    nothing t = cc (rw t at e)

pub position-absent : {X : Type 0} (p : X → Bool) (xs : List X) → position p xs ≡ None → length xs ≤ position_or_len p xs
position-absent p xs e = by_test (nat_lt (position_or_len p xs) (length xs))
    (λ t. absurd (nothing t))
    (λ t. grind (arith, nat_tests))
  where
    nothing : nat_lt (position_or_len p xs) (length xs) ≡ true → ⊥
    nothing t = cc (rw t at e)

-- ---- a list written back in place

pub written_back : {X : Type 0} (old new : List X) → length new ≡ length old → take (length old) (new ++ drop (length new) old) ≡ new
written_back old new e = take_at new (drop (length new) old) (length old) e

position_or_len-within : {X : Type 0} (p : X → Bool) (xs : List X) → position_or_len p xs ≤ length xs
position_or_len-within p [] = omega arith
position_or_len-within p (x ∷ xs) = by_test (p x)
    (λ e. omega (arith, here p x xs e))
    (λ e. omega (arith, later p x xs e, position_or_len-within p xs))

pub unwrap_or-position : {X : Type 0} (p : X → Bool) (xs : List X) → unwrap_or (position p xs) (length xs) ≡ position_or_len p xs
unwrap_or-position p xs = by_test (nat_lt (position_or_len p xs) (length xs))
    (λ t. rw t refl)
    (λ t. rw t (let past : length xs ≤ position_or_len p xs = grind (arith, nat_tests) in omega (arith, past, position_or_len-within p xs)))

pub regions_of-inserted : (r : Region) (items pushed lent new : List Region) (place : ℕ) → pushed ≡ items ++ r ∷ [] → lent ≡ pushed → length new ≡ length lent → ((others : List Region) (last : Region) → lent ≡ others ++ last ∷ [] → new ≡ insert others place last) → place ≡ position_or_len (λ q. is_below (region_of r) (region_of q)) items → regions_of (take (length pushed) (new ++ drop (length new) pushed)) ≡ with_region (region_of r) (regions_of items)
regions_of-inserted r items pushed lent new place all same long moved at =
    ap regions_of (written_back pushed new (long ∙ ap length same))
    ∙ ap regions_of (moved items r (same ∙ all))
    ∙ ap (λ i. regions_of (insert items i r)) at
    ∙ sym (with_region-insert r items)

snoc_same : {X : Type 0} (xs ys : List X) (x y : X) → xs ++ x ∷ [] ≡ ys ++ y ∷ [] → (xs ≡ ys) × (x ≡ y)
snoc_same [] [] x y e = (refl, cc)
snoc_same [] (z ∷ ys) x y e = absurd (let long : length (x ∷ []) ≡ length (z ∷ (ys ++ y ∷ [])) = ap length e in omega (arith, length-append ys (y ∷ [])))
snoc_same (z ∷ xs) [] x y e = absurd (let long : length (z ∷ (xs ++ x ∷ [])) ≡ length (y ∷ []) = ap length e in omega (arith, length-append xs (x ∷ [])))
snoc_same (w ∷ xs) (z ∷ ys) x y e =
    let first : w ≡ z = cc in let rest : xs ++ x ∷ [] ≡ ys ++ y ∷ [] = cc in
    let deeper = snoc_same xs ys x y rest in (let tails : xs ≡ ys = deeper.0 in cc, deeper.1)

pub removed : (items lent new left : List Region) (last : Region) (place : ℕ) → lent ≡ items → length new ≡ length lent → ((d : Region) → new ≡ remove lent place ++ get_or lent place d ∷ []) → take (length items) (new ++ drop (length new) items) ≡ left ++ last ∷ [] → (left ≡ remove items place) × (last ≡ get_or items place last)
removed items lent new left last place same long moved popped =
    snoc_same left (remove items place) last (get_or items place last)
    (sym popped ∙ written_back items new (long ∙ ap length same) ∙ moved last ∙ ap (λ xs. remove xs place ++ get_or xs place last ∷ []) same)
