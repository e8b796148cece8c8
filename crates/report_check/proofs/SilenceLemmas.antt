-- The bytes of silence are 0.
use Rattle.std.proofs.Common.{◌≡◌, ℕ, zero, suc, ◌+◌, ◌*◌, ◌/◌, refl, ap, arith, ◌∙◌, sym, ◌∷◌, ◌++◌}
use Rattle.std.specs.Prelude.{pos, replicate}
use Rattle.sound_model.specs.Numbers.{sample_bytes}
use Rattle.sound_model.specs.Wav.{sound_bytes}
use Rattle.ses_units.specs.declared.bits.Bits.{Bits}
use Rattle.ses_units.specs.declared.bits.Bits.TheVariants.{B16, B24}
use Rattle.ses_units.specs.Bits.{bits_of}
use Rattle.session_model.specs.declared.session.Session.{Session}
use Rattle.master_blocks.specs.Bytes.{block_samples, data_bytes, silent_bytes}

zeros_both : (n m : ℕ) → replicate {A = ℕ} (n + m) 0 ≡ replicate n 0 ++ replicate m 0
zeros_both zero m = let on : zero + m ≡ m = omega arith in ap (λ k. replicate {A = ℕ} k 0) on
zeros_both (suc n) m = let on : suc n + m ≡ suc (n + m) = omega arith in ap (λ k. replicate {A = ℕ} k 0) on ∙ ap (λ xs. 0 ∷ xs) (zeros_both n m)

one_zero : (b : Bits) → sample_bytes (bits_of b) (pos 0) ≡ replicate (bits_of b / 8) 0
one_zero B16 = refl
one_zero B24 = refl

sound_of_none : (b : Bits) (n : ℕ) → sound_bytes (bits_of b) (replicate n (pos 0)) ≡ replicate (n * (bits_of b / 8)) 0
sound_of_none b zero = let none : 0 * (bits_of b / 8) ≡ 0 = grind arith in sym (ap (λ k. replicate {A = ℕ} k 0) none)
sound_of_none b (suc n) = let more : bits_of b / 8 + n * (bits_of b / 8) ≡ suc n * (bits_of b / 8) = grind arith in
    ap (λ xs. xs ++ sound_bytes (bits_of b) (replicate n (pos 0))) (one_zero b) ∙ ap (λ xs. replicate {A = ℕ} (bits_of b / 8) 0 ++ xs) (sound_of_none b n)
    ∙ sym (zeros_both (bits_of b / 8) (n * (bits_of b / 8))) ∙ ap (λ k. replicate {A = ℕ} k 0) more

pub silence_is_zeros : (s : Session) (blocks : ℕ) → silent_bytes s blocks ≡ replicate (data_bytes s blocks) 0
silence_is_zeros s blocks = sound_of_none s.bits (blocks * block_samples s)
