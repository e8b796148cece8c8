-- A number scaled by its high part and its low one.
use Rattle.std.proofs.Common.{◌≡◌, ℕ, zero, suc, ◌+◌, ◌-◌, ◌*◌, ◌/◌, ◌<◌, ℤ, pos, negsuc, neg_ℤ, ◌+ℤ◌, ◌*ℤ◌, sym, ap, ◌∙◌, arith}
use Rattle.std.specs.Int.{int_div_euclid}
use Rattle.std.proofs.lemmas.Int.{ints}
use Rattle.std.proofs.Math.Nat.{add-mul, mul_right_comm}
use Rattle.sound_model.specs.Numbers.{scale}

-- a number below zero, divided and rounded down
below_zero : (p a b : ℕ) → p + b ≡ a * 65536 → int_div_euclid (neg_ℤ (pos p)) (pos 65536) ≡ neg_ℤ (pos a) +ℤ pos (b / 65536)
below_zero zero a b e = let whole : b / 65536 ≡ a = omega (arith, e) in omega (arith, ints, whole)
below_zero (suc j) a b e = let part : j / 65536 + 1 + b / 65536 ≡ a = omega (arith, e) in omega (arith, ints, part)

product : (n m l g : ℕ) → n + l ≡ m * 65536 → n * g + l * g ≡ m * g * 65536
product n m l g e = sym (add-mul n l g) ∙ ap (λ k. k * g) e ∙ mul_right_comm m 65536 g

-- both parts scaled by themselves, where the low one is below 2 ^ 16
pub by_parts : (h : ℤ) (l g : ℕ) (z : ℤ) → z ≡ h *ℤ pos 65536 +ℤ pos l → l < 65536 → scale z g ≡ h *ℤ pos g +ℤ pos (l * g / 65536)
by_parts (pos k) l g z e small = ap (λ y. scale y g) whole ∙ ap pos parts
  where
    whole : z ≡ pos (k * 65536 + l)
    whole = omega (arith, ints, e)

    parts : (k * 65536 + l) * g / 65536 ≡ k * g + l * g / 65536
    parts = let spread : (k * 65536 + l) * g ≡ k * g * 65536 + l * g = add-mul (k * 65536) l g ∙ ap (λ n. n + l * g) (mul_right_comm k 65536 g) in omega (arith, spread)
by_parts (negsuc k) l g z e small = ap (λ y. scale y g) whole ∙ below_zero (suc n * g) (suc k * g) (l * g) (product (suc n) (suc k) l g (omega arith))
  where
    n : ℕ
    n = k * 65536 + (65535 - l)

    whole : z ≡ negsuc n
    whole = omega (arith, ints, e)
