-- The bytes of samples: how many they are, one list behind another, and silence.
use Rattle.std.proofs.Common.{◌≡◌, ℕ, zero, suc, ◌+◌, ◌*◌, ◌/◌, List, ◌++◌, length, refl, ap, ap₂, ◌∙◌, arith}
use Rattle.std.specs.Prelude.{ℤ, pos, replicate}
use Rattle.std.proofs.lemmas.Grind.{flat_map-append}
use Rattle.std.proofs.lemmas.List.{replicate-append-replicate}
use Rattle.sound_model.specs.Numbers.{sample_bytes}
use Rattle.sound_model.specs.Wav.{sound_bytes}
use Rattle.sound_laws.proofs.WrittenLaws.{length-sound_bytes}
use Rattle.ses_units.specs.declared.bits.Bits.{Bits}
use Rattle.ses_units.specs.declared.bits.Bits.TheVariants.{B16, B24}
use Rattle.ses_units.specs.Bits.{bits_of}
use Rattle.session_model.specs.declared.session.Session.{Session}
use Rattle.session_model.specs.Formed.{channels_at}
use Rattle.engine_model.specs.Takes.{silent_block}
use Rattle.capture_flush.specs.Flushed.{block_bytes}

-- ---- any samples

pub sound_long : (bits : Bits) (samples : List ℤ) → length (sound_bytes (bits_of bits) samples) ≡ length samples * (bits_of bits / 8)
sound_long bits samples = length-sound_bytes (bits_of bits) samples

pub sound_joined : (bits : Bits) (xs ys : List ℤ) → sound_bytes (bits_of bits) (xs ++ ys) ≡ sound_bytes (bits_of bits) xs ++ sound_bytes (bits_of bits) ys
sound_joined bits xs ys = flat_map-append (sample_bytes (bits_of bits)) xs ys

-- ---- silence

silent_sample : (bits : Bits) → sample_bytes (bits_of bits) (pos 0) ≡ replicate (bits_of bits / 8) 0
silent_sample B16 = refl
silent_sample B24 = refl

one_more : (k n : ℕ) → n + k * n ≡ suc k * n
one_more k n = grind arith

silent_bytes : (bits : Bits) (k : ℕ) → sound_bytes (bits_of bits) (replicate k (pos 0)) ≡ replicate (k * (bits_of bits / 8)) 0
silent_bytes bits zero = ap (λ n. replicate n 0) {x = 0} (omega arith)
silent_bytes bits (suc k) = let wide = bits_of bits / 8 in
    ap₂ (λ xs ys. xs ++ ys) (silent_sample bits) (silent_bytes bits k) ∙ replicate-append-replicate wide (k * wide) 0 ∙ ap (λ n. replicate n 0) (one_more k wide)

pub silent_sound : (s : Session) (t k : ℕ) → sound_bytes (bits_of s.bits) (replicate k (pos 0)) ≡ replicate (k * (bits_of s.bits / 8)) 0
silent_sound s t k = silent_bytes s.bits k

pub silent_block_sound : (s : Session) (t : ℕ) → sound_bytes (bits_of s.bits) (silent_block s t) ≡ replicate (block_bytes s t) 0
silent_block_sound s t = silent_sound s t (s.block * channels_at s t)
