-- Lemmas on scaling and bounding.
use Rattle.std.proofs.Common.{◌≡◌, ℕ, zero, suc, ◌+◌, ◌*◌, ◌/◌, ◌≤◌, refl, ap, arith, inl, inr}
use Rattle.std.specs.Prelude.{ℤ, pos, negsuc, neg_ℤ, ◌+ℤ◌, ◌*ℤ◌, ◌≤ℤ◌}
use Rattle.std.specs.Int.{int_div_euclid}
use Rattle.std.proofs.lemmas.Int.{ints}
use Rattle.std.proofs.lemmas.Nat.{le-div}
use Rattle.std.proofs.Math.Nat.{div-mul-le_self, div-zero}
use Rattle.sound_model.specs.Numbers.{scale, bounded, file_sample, inner}
use Rattle.sound_laws.specs.Values.{UnityChangesNothing, ClippedStays, ReadIsWritten}

pub scale_unity : UnityChangesNothing
scale_unity (pos n) = ap pos (omega arith)
scale_unity (negsuc n) =
    let whole : suc n * 65536 ≡ suc (n * 65536 + 65535) = omega arith in
    rw whole (ap negsuc (omega arith))

pub scale-silence : (s : ℤ) → scale s 0 ≡ pos 0
scale-silence (pos n) = ap pos (omega arith)
scale-silence (negsuc n) =
    let none : suc n * 0 ≡ 0 = omega arith in
    rw none refl

pub scale-zero : (g : ℕ) → scale (pos 0) g ≡ pos 0
scale-zero g = let none : 0 * g ≡ 0 = omega arith in rw none refl

pub clip_clip : ClippedStays
clip_clip s = grind (arith, ints)

pub zero-plus : (s : ℤ) → pos 0 +ℤ s ≡ s
zero-plus s = omega (arith, ints)

pub plus-zero : (s : ℤ) → s +ℤ pos 0 ≡ s
plus-zero s = omega (arith, ints)

pub times-over : (y : ℤ) → int_div_euclid (y *ℤ pos 256) (pos 256) ≡ y
times-over (pos n) = ap pos (omega arith)
times-over (negsuc n) =
    let whole : suc n * 256 ≡ suc (n * 256 + 255) = omega arith in
    rw whole (ap negsuc (omega arith))

bounded-bounded : (low high v : ℤ) → low ≤ℤ high → bounded low high (bounded low high v) ≡ bounded low high v
bounded-bounded low high v h = grind (arith, ints)

-- what a file of 16 bits holds is read and written again
again_16 : (x : ℤ) → file_sample 16 (inner 16 (file_sample 16 x)) ≡ file_sample 16 x
again_16 x = rw times-over (bounded-bounded (neg_ℤ (pos 32768)) (pos 32767) (int_div_euclid x (pos 256)) (record { le = tt }))

again_24 : (x : ℤ) → file_sample 24 (inner 24 (file_sample 24 x)) ≡ file_sample 24 x
again_24 x = bounded-bounded (neg_ℤ (pos 8388608)) (pos 8388607) x (record { le = tt })

pub read_is_written : ReadIsWritten
read_is_written bits x (inl e) = rw e (again_16 x)
read_is_written bits x (inr e) = rw e (again_24 x)

pub quotient_rises : (a b d : ℕ) → a ≤ b → a / d ≤ b / d
quotient_rises a b zero h = rw (div-zero, div-zero) (omega arith)
quotient_rises a b (suc d) h = le-div (a / suc d) b (suc d) (omega arith) (omega (arith, div-mul-le_self a (suc d)))
