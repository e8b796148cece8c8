-- The samples of one channel as two, item by item, and how near they lie.
use Rattle.std.proofs.Common.{◌≡◌, ℕ, zero, suc, ◌+◌, ◌*◌, ◌<◌, ◌≤◌, ℤ, pos, ◌+ℤ◌, List, length, get_or, [], ◌∷◌, refl, sym, ◌∙◌, subst, arith}
use Rattle.std.proofs.lemmas.List.Elements.{All-get_or, All-from_get_or, All-cons}
use Rattle.std.proofs.lemmas.Simd.{length-zip2, get_or-zip2}
use Rattle.std.specs.Prelude.{All}
use Rattle.sound_model.specs.Numbers.{scale}
use Rattle.mix_kernel.specs.Blocks.{sided, summed}
use Rattle.mix_kernel.specs.Bounds.{IsNear, AllNear}
use Rattle.mix_kernel.proofs.Formulas.{AreSamples, scale-near, sum-near, sample-near}

pub length-sided : (g l r : ℕ) (ss : List ℤ) → length (sided g l r ss) ≡ length ss * 2
length-sided g l r [] = omega arith
length-sided g l r (s ∷ ss) = omega (arith, length-sided g l r ss)

pub left-sided : (g l r : ℕ) (ss : List ℤ) (i k : ℕ) → k ≡ 2 * i → i < length ss → get_or (sided g l r ss) k (pos 0) ≡ scale (scale (get_or ss i (pos 0)) g) l
left-sided g l r [] i k e h = absurd (omega arith)
left-sided g l r (s ∷ ss) zero zero e h = refl
left-sided g l r (s ∷ ss) zero (suc k) e h = absurd (omega (arith, e))
left-sided g l r (s ∷ ss) (suc i) zero e h = absurd (omega (arith, e))
left-sided g l r (s ∷ ss) (suc i) (suc zero) e h = absurd (omega (arith, e))
left-sided g l r (s ∷ ss) (suc i) (suc (suc k)) e h = left-sided g l r ss i k (omega (arith, e)) (omega (arith, h))

pub right-sided : (g l r : ℕ) (ss : List ℤ) (i k : ℕ) → k ≡ 2 * i + 1 → i < length ss → get_or (sided g l r ss) k (pos 0) ≡ scale (scale (get_or ss i (pos 0)) g) r
right-sided g l r [] i k e h = absurd (omega arith)
right-sided g l r (s ∷ ss) i zero e h = absurd (omega (arith, e))
right-sided g l r (s ∷ ss) zero (suc zero) e h = refl
right-sided g l r (s ∷ ss) zero (suc (suc k)) e h = absurd (omega (arith, e))
right-sided g l r (s ∷ ss) (suc i) (suc zero) e h = absurd (omega (arith, e))
right-sided g l r (s ∷ ss) (suc i) (suc (suc k)) e h = right-sided g l r ss i k (omega (arith, e)) (omega (arith, h))

module _ (sums : List ℤ) (g l r : ℕ) (ss : List ℤ) (few : length sums ≡ length ss * 2) where
  pub length-both : length (summed sums (sided g l r ss)) ≡ length sums
  length-both = length-zip2 ◌+ℤ◌ sums (sided g l r ss) (few ∙ sym (length-sided g l r ss))

  pub item-both : (k : ℕ) → k < length sums → get_or (summed sums (sided g l r ss)) k (pos 0) ≡ get_or sums k (pos 0) +ℤ get_or (sided g l r ss) k (pos 0)
  item-both k h = get_or-zip2 ◌+ℤ◌ sums (sided g l r ss) k (pos 0) (pos 0) (pos 0) h (omega (arith, length-sided g l r ss, few))

  pub near-both : g ≤ 262144 → l ≤ 262144 → r ≤ 262144 → AreSamples ss → (b : ℕ) → AllNear b sums → AllNear (b + 34359738368) (summed sums (sided g l r ss))
  near-both quiet left right fit b near =
      All-from_get_or (IsNear (b + 34359738368)) (summed sums (sided g l r ss)) (pos 0)
      (λ k h. let there : k < length sums = omega (arith, length-both) in
      subst (IsNear (b + 34359738368)) (sym (item-both k there))
      (sum-near (get_or sums k (pos 0)) (get_or (sided g l r ss) k (pos 0)) b 34359738368
      (All-get_or (IsNear b) sums k (pos 0) there near)
      (All-get_or (IsNear 34359738368) (sided g l r ss) k (pos 0) (omega (arith, length-sided g l r ss, few)) (near-sided ss fit))))
    where
      side : (s : ℤ) (h : ℕ) → IsNear 2147483648 s → h ≤ 262144 → IsNear 34359738368 (scale (scale s g) h)
      side s h near most = scale-near (scale s g) h 8589934592 262144 34359738368 (scale-near s g 2147483648 262144 8589934592 near quiet (omega arith)) most (omega arith)

      near-sided : (qs : List ℤ) → AreSamples qs → All (IsNear 34359738368) (sided g l r qs)
      near-sided [] fits = λ k d h. absurd (omega arith)
      near-sided (s ∷ qs) fits = let here = sample-near s (fits 0 (omega arith)) in
          All-cons (IsNear 34359738368) (scale (scale s g) l) (scale (scale s g) r ∷ sided g l r qs) (side s l here left)
          (All-cons (IsNear 34359738368) (scale (scale s g) r) (sided g l r qs) (side s r here right)
          (near-sided qs (λ k h. fits (suc k) (omega (arith, h)))))
