-- The first of a row of numbered things that passes a test.
use Rattle.std.proofs.Common.{◌≡◌, ◌≢◌, ℕ, zero, suc, ◌+◌, ◌<◌, ◌≤◌, List, ◌++◌, map, refl, ap, ◌∙◌, arith}
use Rattle.std.specs.Prelude.{Bool, true, false, if◌then◌else◌, find, Some, None}
use Rattle.std.specs.List.{range_with_len}
use Rattle.std.specs.Option.{option_or}
use Rattle.std.proofs.lemmas.List.Folds.{find-append}
use mathlib.Core.Logic.{dite}
use native.Mathlib.Decide.{ℕ_discrete}

module _ {X : Type 0} (p : X → Bool) where
  pub none_passes : (g : ℕ → X) (a n : ℕ) → ((t : ℕ) → p (g t) ≡ false) → find p (map g (range_with_len a n)) ≡ None
  none_passes g a zero fails = refl
  none_passes g a (suc n) fails = ap (λ b. if b then Some (g a) else find p (map g (range_with_len (a + 1) n))) (fails a) ∙ none_passes g (a + 1) n fails

  pub first_passes : (g : ℕ → X) (a n t : ℕ) → a ≤ t → t < a + n → p (g t) ≡ true → ((u : ℕ) → u < t → p (g u) ≡ false) → find p (map g (range_with_len a n)) ≡ Some (g t)
  first_passes g a zero t low high passes before = absurd (omega (arith, low, high))
  first_passes g a (suc n) t low high passes before = let rest = find p (map g (range_with_len (a + 1) n)) in dite (ℕ_discrete a t)
      (λ (here : a ≡ t). ap (λ b. if b then Some (g a) else rest) (ap (λ k. p (g k)) here ∙ passes) ∙ ap (λ k. Some (g k)) here)
      (λ (other : a ≢ t). ap (λ b. if b then Some (g a) else rest) (before a (omega (arith, low, other)))
      ∙ first_passes g (a + 1) n t (omega (arith, low, other)) (omega (arith, high)) passes before)

  -- of two rows one after the other: none, one of the first, or one of the second
  module _ (g h : ℕ → X) (n m : ℕ) where
    abbrev row : List X
    row = map g (range_with_len 0 n) ++ map h (range_with_len 0 m)

    apart : find p row ≡ option_or (find p (map g (range_with_len 0 n))) (find p (map h (range_with_len 0 m)))
    apart = find-append p (map g (range_with_len 0 n)) (map h (range_with_len 0 m))

    pub found_none : ((t : ℕ) → p (g t) ≡ false) → ((t : ℕ) → p (h t) ≡ false) → find p row ≡ None
    found_none gs hs = apart ∙ (λ i. option_or (none_passes g 0 n gs i) (none_passes h 0 m hs i))

    pub found_front : (t : ℕ) → t < n → p (g t) ≡ true → ((u : ℕ) → u < t → p (g u) ≡ false) → find p row ≡ Some (g t)
    found_front t low passes before = apart ∙ ap (λ o. option_or o (find p (map h (range_with_len 0 m)))) (first_passes g 0 n t (omega arith) (omega (arith, low)) passes before)

    pub found_back : ((t : ℕ) → p (g t) ≡ false) → (t : ℕ) → t < m → p (h t) ≡ true → ((u : ℕ) → u < t → p (h u) ≡ false) → find p row ≡ Some (h t)
    found_back gs t low passes before = apart ∙ (λ i. option_or (none_passes g 0 n gs i) (first_passes h 0 m t (omega arith) (omega (arith, low)) passes before i))
