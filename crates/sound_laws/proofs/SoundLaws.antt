-- The sound of a file that was written: each sample is the one that was written.
use Rattle.std.proofs.Common.{◌≡◌, ℕ, zero, suc, ◌+◌, ◌*◌, ◌/◌, ◌%◌, ◌^◌, ◌≤◌, ◌<◌, ◌⊎◌, inl, inr, true, cond, ◌&&◌, nat_lt, nat_le, refl, ap, arith, ◌∙◌, sym, List, [], ◌∷◌, ◌++◌, length, drop, get_or, replicate, append_assoc}
use Rattle.std.specs.Prelude.{ℤ, pos, negsuc, ◌≤ℤ◌, neg_ℤ}
use Rattle.std.specs.Int.{bytes_low_first, int_div_euclid}
use Rattle.std.proofs.lemmas.Bool.Decides.{nat_tests}
use Rattle.std.proofs.lemmas.Int.{ints}
use Rattle.std.proofs.lemmas.List.{drop-drop, drop_at}
use Rattle.std.proofs.Math.Seq.{drop-cons}
use Rattle.std.proofs.Math.Nat.{div-mul-le_self, mul-le-mul_right}
use Rattle.sound_model.specs.Numbers.{number, signed, twos_complement, bounded, sample_bytes, sample_at, file_sample, inner}
use Rattle.sound_model.specs.Wav.{Form, align, sound, sound_bytes, header, canon}
use Rattle.sound_laws.specs.Files.{WrittenSoundIsRead}
use Rattle.sound_laws.proofs.WrittenLaws.{length-sample_bytes, canon_holds}

-- ---- two's complement

signed-twos_16 : (y : ℤ) → neg_ℤ (pos 32768) ≤ℤ y → y ≤ℤ pos 32767 → signed 16 (twos_complement 16 y) ≡ y
signed-twos_16 (pos n) low high = let small : n < 32768 = omega (arith, ints) in grind (arith, nat_tests)
signed-twos_16 (negsuc n) low high = let small : n < 32768 = omega (arith, ints) in grind (arith, nat_tests)

signed-twos_24 : (y : ℤ) → neg_ℤ (pos 8388608) ≤ℤ y → y ≤ℤ pos 8388607 → signed 24 (twos_complement 24 y) ≡ y
signed-twos_24 (pos n) low high = let small : n < 8388608 = omega (arith, ints) in grind (arith, nat_tests)
signed-twos_24 (negsuc n) low high = let small : n < 8388608 = omega (arith, ints) in grind (arith, nat_tests)

number_2 : (n : ℕ) → n < 2 ^ 16 → number 2 (bytes_low_first 0 2 n) ≡ n
number_2 n h = omega arith

number_3 : (n : ℕ) → n < 2 ^ 24 → number 3 (bytes_low_first 0 3 n) ≡ n
number_3 n h = omega arith

low_bound : (low high v : ℤ) → low ≤ℤ high → low ≤ℤ bounded low high v
low_bound low high v h = grind (arith, ints)

high_bound : (low high v : ℤ) → low ≤ℤ high → bounded low high v ≤ℤ high
high_bound low high v h = grind (arith, ints)

twos_16 : (y : ℤ) → y ≤ℤ pos 32767 → twos_complement 16 y < 2 ^ 16
twos_16 (pos n) high = omega (arith, ints)
twos_16 (negsuc n) high = omega arith

twos_24 : (y : ℤ) → y ≤ℤ pos 8388607 → twos_complement 24 y < 2 ^ 24
twos_24 (pos n) high = omega (arith, ints)
twos_24 (negsuc n) high = omega arith

-- a sample that was written is read, whatever follows it
read_16 : (v : ℤ) (rest : List ℕ) → sample_at 16 (sample_bytes 16 v ++ rest) ≡ inner 16 (file_sample 16 v)
read_16 v rest = ap (inner 16) (ap (signed 16) (number_2 (twos_complement 16 y) (twos_16 y high)) ∙ signed-twos_16 y low high)
  where
    y : ℤ
    y = file_sample 16 v

    low : neg_ℤ (pos 32768) ≤ℤ y
    low = low_bound (neg_ℤ (pos 32768)) (pos 32767) (int_div_euclid v (pos 256)) (record { le = tt })

    high : y ≤ℤ pos 32767
    high = high_bound (neg_ℤ (pos 32768)) (pos 32767) (int_div_euclid v (pos 256)) (record { le = tt })

read_24 : (v : ℤ) (rest : List ℕ) → sample_at 24 (sample_bytes 24 v ++ rest) ≡ inner 24 (file_sample 24 v)
read_24 v rest = ap (signed 24) (number_3 (twos_complement 24 y) (twos_24 y high)) ∙ signed-twos_24 y low high
  where
    y : ℤ
    y = file_sample 24 v

    low : neg_ℤ (pos 8388608) ≤ℤ y
    low = low_bound (neg_ℤ (pos 8388608)) (pos 8388607) v (record { le = tt })

    high : y ≤ℤ pos 8388607
    high = high_bound (neg_ℤ (pos 8388608)) (pos 8388607) v (record { le = tt })

read_one : (bits : ℕ) (v : ℤ) (rest : List ℕ) → (bits ≡ 16) ⊎ (bits ≡ 24) → sample_at bits (sample_bytes bits v ++ rest) ≡ inner bits (file_sample bits v)
read_one bits v rest (inl e) = rw e (read_16 v rest)
read_one bits v rest (inr e) = rw e (read_24 v rest)

-- ---- where the samples stand

drop_samples : (bits j : ℕ) (samples : List ℤ) (pad : List ℕ) → j ≤ length samples →
    drop (j * (bits / 8)) (sound_bytes bits samples ++ pad) ≡ sound_bytes bits (drop j samples) ++ pad
drop_samples bits zero samples pad h = let none : 0 * (bits / 8) ≡ 0 = omega arith in rw none refl
drop_samples bits (suc j) [] pad h = absurd (omega arith)
drop_samples bits (suc j) (v ∷ samples) pad h =
    ap (λ n. drop n ((sample_bytes bits v ++ sound_bytes bits samples) ++ pad)) next
    ∙ ap (drop (bits / 8 + j * (bits / 8))) (append_assoc (sample_bytes bits v) (sound_bytes bits samples) pad)
    ∙ sym (drop-drop (j * (bits / 8)) (bits / 8) (sample_bytes bits v ++ (sound_bytes bits samples ++ pad)))
    ∙ ap (drop (j * (bits / 8))) (drop_at (sample_bytes bits v) (sound_bytes bits samples ++ pad) (bits / 8) (length-sample_bytes bits v))
    ∙ drop_samples bits j samples pad (omega arith)
  where
    next : suc j * (bits / 8) ≡ bits / 8 + j * (bits / 8)
    next = omega arith

sample_there : (bits j : ℕ) (samples : List ℤ) (pad : List ℕ) → (bits ≡ 16) ⊎ (bits ≡ 24) → j < length samples →
    sample_at bits (drop (j * (bits / 8)) (sound_bytes bits samples ++ pad)) ≡ inner bits (file_sample bits (get_or samples j (pos 0)))
sample_there bits j samples pad depth h =
    ap (sample_at bits) (drop_samples bits j samples pad (omega arith)
    ∙ ap (λ vs. sound_bytes bits vs ++ pad) (drop-cons samples j (pos 0) h)
    ∙ append_assoc (sample_bytes bits (get_or samples j (pos 0))) (sound_bytes bits (drop (suc j) samples)) pad)
    ∙ read_one bits (get_or samples j (pos 0)) (sound_bytes bits (drop (suc j) samples) ++ pad) depth

-- behind the 44 bytes of the header stands the sound
drop_header : (form : Form) (samples : List ℤ) (n : ℕ) →
    drop (44 + n) (canon form samples) ≡ drop n (sound_bytes form.bits samples ++ replicate (length (sound_bytes form.bits samples) % 2) 0)
unfolding canon header
drop_header form samples n = sym (drop-drop n 44 (canon form samples))

-- ---- the sample of a frame

-- i whole frames and c samples before a place, in samples and in bytes
place_is : (i c channels bytes : ℕ) → 44 + i * (channels * bytes) + c * bytes ≡ 44 + (i * channels + c) * bytes
place_is i c channels bytes = grind arith

-- the whole frames up to frame i lie within the samples
frames_below : (i channels long : ℕ) → i < long / channels → suc i * channels ≤ long
frames_below i channels long h = let whole : long / channels * channels ≤ long = div-mul-le_self long channels in
    let enough : suc i * channels ≤ long / channels * channels = mul-le-mul_right channels h in omega arith

place_below : (i c channels long : ℕ) → suc i * channels ≤ long → c < channels → i * channels + c < long
place_below i c channels long h g = omega arith

frame_below : (i channels long bytes : ℕ) → suc i * channels ≤ long → i * (channels * bytes) + channels * bytes ≤ long * bytes
frame_below i channels long bytes h = let enough : suc i * channels * bytes ≤ long * bytes = mul-le-mul_right bytes h in omega arith

pub written_sound_is_read : WrittenSoundIsRead
unfolding sound
written_sound_is_read form samples i c h here there =
    ap (λ t. cond t (sample_at form.bits (drop (44 + i * align form + c * bytes) b)) (pos 0)) (inside here there whole)
    ∙ ap (λ n. sample_at form.bits (drop n b)) (place_is i c form.channels bytes)
    ∙ ap (sample_at form.bits) (drop_header form samples ((i * form.channels + c) * bytes))
    ∙ sample_there form.bits (i * form.channels + c) samples _ h.bits (place_below i c form.channels (length samples) below there)
  where
    bytes : ℕ
    bytes = form.bits / 8

    b : List ℕ
    b = canon form samples

    below : suc i * form.channels ≤ length samples
    below = frames_below i form.channels (length samples) here

    whole : 44 + i * align form + align form ≤ length b
    whole = let enough : i * align form + align form ≤ length samples * bytes = frame_below i form.channels (length samples) bytes below in
        omega (arith, canon_holds form samples h)

    inside : i < length samples / form.channels → c < form.channels → 44 + i * align form + align form ≤ length b →
        (nat_lt i (length samples / form.channels) && nat_lt c form.channels && nat_le (44 + i * align form + align form) (length b)) ≡ true
    inside f g k = grind (arith, nat_tests)
