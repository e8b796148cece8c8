-- Samples that a gain leaves in their range.
use Rattle.std.proofs.Common.{◌≡◌, ℕ, ◌≤◌, ℤ, List, [], ◌∷◌, All, refl, ap₂, arith}
use Rattle.std.proofs.lemmas.Int.{ints}
use Rattle.std.proofs.lemmas.List.Elements.{All-head, All-tail}
use Rattle.sound_model.specs.Numbers.{scale, clip}
use Rattle.sound_laws.proofs.NumberLaws.{scale_unity}
use Rattle.session_model.specs.Frames.{IsSample}
use Rattle.mix_kernel.specs.Blocks.{scaled_evenly, clipped}
use Rattle.mix_kernel.specs.Bounds.{IsNear}
use Rattle.mix_kernel.proofs.Formulas.{scale-near}

-- ---- one gain for all samples

pub even_unity : (samples : List ℤ) → scaled_evenly samples 65536 ≡ samples
even_unity [] = refl
even_unity (s ∷ ss) = ap₂ (λ z zs. z ∷ zs) (scale_unity s) (even_unity ss)

clip_near : (z : ℤ) → IsNear 33554432 z → clip z ≡ z
clip_near z h = grind (arith, ints)

sample_near : (s : ℤ) → IsSample s → IsNear 8388608 s
sample_near s h = (h.low, omega (arith, ints))

-- 24 bits, four times as loud, are 26
pub clip_scaled : (s : ℤ) (g : ℕ) → IsSample s → g ≤ 262144 → clip (scale s g) ≡ scale s g
clip_scaled s g h quiet = clip_near (scale s g) (scale-near s g 8388608 262144 33554432 (sample_near s h) quiet (omega arith))

pub clip_sample : (s : ℤ) → IsSample s → clip s ≡ s
clip_sample s h = clip_near s (omega (arith, ints), omega (arith, ints))

pub even_clipped : (samples : List ℤ) (g : ℕ) → All IsSample samples → g ≤ 262144 → clipped (scaled_evenly samples g) ≡ scaled_evenly samples g
even_clipped [] g range quiet = refl
even_clipped (s ∷ ss) g range quiet = ap₂ (λ z zs. z ∷ zs) (clip_scaled s g (All-head IsSample s ss range) quiet) (even_clipped ss g (All-tail IsSample s ss range) quiet)
