-- The bytes of the master, block by block, and how many they are.
use Rattle.std.proofs.Common.{◌≡◌, ℕ, ◌+◌, ◌*◌, ◌/◌, ◌%◌, ◌<◌, ◌≤◌, ◌^◌, ◌⊎◌, ◌++◌, List, length, ap, sym, ◌∙◌, arith}
use Rattle.std.specs.Prelude.{ℤ, replicate}
use Rattle.std.proofs.Math.Nat.{mul-le-mul}
use Rattle.std.proofs.lemmas.Grind.{flat_map-append}
use Rattle.std.proofs.lemmas.List.FromFn.{length-map-range_with_len}
use Rattle.ses_units.specs.Bits.{bits_of}
use Rattle.ses_units.specs.declared.bits.Bits.{Bits}
use Rattle.ses_units.specs.declared.bits.Bits.TheVariants.{B16, B24}
use Rattle.sound_model.specs.Numbers.{sample_bytes}
use Rattle.sound_model.specs.Regions.{Sounds}
use Rattle.sound_model.specs.Wav.{Form, align, header, sound_bytes, canon}
use Rattle.session_model.specs.declared.session.Session.{Session}
use Rattle.session_model.specs.Frames.{interleaved}
use Rattle.engine_model.specs.Played.{master_channels, master_form}
use Rattle.playlist_layers.proofs.SpanLemmas.{spans_joined}
use Rattle.master_render.specs.Offline.{offline_sound, offline_samples, offline_bytes, offline_file}

-- ---- block by block

pub bytes_joined : (sounds : Sounds) (s : Session) (from a b : ℕ) → (master_channels s ≡ 1) ⊎ (master_channels s ≡ 2)
    → offline_bytes sounds s from (a + b) ≡ offline_bytes sounds s from a ++ offline_bytes sounds s (from + a) b
bytes_joined sounds s from a b few = let n = master_channels s in
    ap (λ k. sound_bytes (bits_of s.bits) (interleaved (offline_sound sounds s) n from k)) sum
    ∙ ap (sound_bytes (bits_of s.bits)) (sym (spans_joined (offline_sound sounds s) n from a (b * n) few))
    ∙ flat_map-append (sample_bytes (bits_of s.bits)) (offline_samples sounds s from a) (offline_samples sounds s (from + a) b)
  where
    sum : (a + b) * master_channels s ≡ a * master_channels s + b * master_channels s
    sum = omega arith

-- ---- the file

-- what stands before the frames, and behind them
abbrev pub head_of : Session → ℕ → List ℕ
head_of s frames = header (master_form s) (frames * align (master_form s))

abbrev pub pad_of : Session → ℕ → List ℕ
pad_of s frames = replicate (frames * align (master_form s) % 2) 0

pub file_parts : (sounds : Sounds) (s : Session) (from frames : ℕ)
    → ((form : Form) (n : ℕ) (samples : List ℤ) → length samples ≡ n * form.channels → canon form samples ≡ header form (n * align form) ++ sound_bytes form.bits samples ++ replicate (n * align form % 2) 0)
    → offline_file sounds s from frames ≡ head_of s frames ++ (offline_bytes sounds s from frames ++ pad_of s frames)
unfolding header
file_parts sounds s from frames law =
    law (master_form s) frames (offline_samples sounds s from frames) (length-map-range_with_len _ 0 (frames * master_channels s))

-- ---- sizes

few_bytes : (bits : Bits) → bits_of bits / 8 ≤ 3
few_bytes B16 = omega arith
few_bytes B24 = omega arith

align_few : (channels bits : ℕ) → channels ≤ 2 → bits / 8 ≤ 3 → channels * (bits / 8) ≤ 6
align_few channels bits wide few = let most : channels * (bits / 8) ≤ 2 * 3 = mul-le-mul wide few in omega (arith, most)

-- 32 bits hold the size of the file
file_fits : (frames channels : ℕ) (bits : Bits) → frames ≤ 409600000 → channels ≤ 2 → 36 + frames * (channels * (bits_of bits / 8)) + frames * (channels * (bits_of bits / 8)) % 2 < 2 ^ 32
file_fits frames channels bits most wide =
    let all : frames * (channels * (bits_of bits / 8)) ≤ 409600000 * 6 = mul-le-mul most (align_few channels (bits_of bits) wide (few_bytes bits)) in
    omega (arith, all)

pub file_fits_of : (frames count channels : ℕ) (bits : Bits) → count ≡ frames → frames ≤ 409600000 → channels ≤ 2 → 36 + count * (channels * (bits_of bits / 8)) + count * (channels * (bits_of bits / 8)) % 2 < 2 ^ 32
file_fits_of frames count channels bits same most wide = file_fits count channels bits (omega (arith, same, most)) wide
