-- A file that was written is read back: its head, and its sound.
use Rattle.std.proofs.Common.{◌≡◌, ℕ, zero, suc, ◌+◌, ◌*◌, ◌/◌, ◌%◌, ◌^◌, ◌≤◌, ◌<◌, ◌⊎◌, inl, inr, Bool, refl, ap, arith, ◌∙◌, sym, subst, List, [], ◌∷◌, ◌++◌, length, replicate, Ok}
use Rattle.std.specs.Prelude.{ℤ}
use Rattle.std.specs.Int.{bytes_low_first}
use Rattle.std.proofs.lemmas.List.{length-append}
use Rattle.std.proofs.Math.Nat.{mul_comm, div-div-eq-div-mul, mul-div_cancel}
use Rattle.std.proofs.lemmas.Nat.{from_le_bytes-to_le_bytes_2, from_le_bytes-to_le_bytes_4}
use Rattle.sound_model.specs.Numbers.{twos_complement, sample_bytes, file_sample}
use Rattle.sound_model.specs.Wav.{Form, align, head, header, canon, sound_bytes}
use Rattle.sound_laws.specs.Files.{IsRead, IsWritten, WrittenHeadIsRead}
use Rattle.sound_laws.proofs.HeadLaws.{Stands, head_stands}

length-low_first : (i k n : ℕ) → length (bytes_low_first i k n) ≡ k
length-low_first i zero n = refl
length-low_first i (suc k) n = ap suc (length-low_first (suc i) k n)

pub length-sample_bytes : (bits : ℕ) (v : ℤ) → length (sample_bytes bits v) ≡ bits / 8
length-sample_bytes bits v = length-low_first 0 (bits / 8) (twos_complement bits (file_sample bits v))

one_more : (a b c d : ℕ) → a ≡ b → c ≡ d * b → a + c ≡ suc d * b
one_more a b c d e f = grind arith

pub length-sound_bytes : (bits : ℕ) (samples : List ℤ) → length (sound_bytes bits samples) ≡ length samples * (bits / 8)
length-sound_bytes bits [] = omega arith
length-sound_bytes bits (v ∷ samples) = length-append (sample_bytes bits v) (sound_bytes bits samples)
    ∙ one_more _ _ _ (length samples) (length-sample_bytes bits v) (length-sound_bytes bits samples)

-- a form that is written is read
pub read_form : (form : Form) (samples : List ℤ) → IsWritten form samples → IsRead form
read_form form samples h = record { channels = h.channels; rate = h.rate; bits = inr h.bits }

-- bounds of the fields of a form that is read
pub record Fields (form : Form) : Type 0 where
  pub channels : form.channels < 2 ^ 16
  pub rate : form.rate < 2 ^ 32
  pub bits : form.bits < 2 ^ 16
  pub block : align form < 2 ^ 16

pub fields : (form : Form) → IsRead form → Fields form
fields form h = go h.bits
  where
    go : (form.bits ≡ 8) ⊎ ((form.bits ≡ 16) ⊎ (form.bits ≡ 24)) → Fields form
    go (inl e) = record { channels = omega arith; rate = omega arith; bits = omega arith; block = rw e (omega arith) }
    go (inr (inl e)) = record { channels = omega arith; rate = omega arith; bits = omega arith; block = rw e (omega arith) }
    go (inr (inr e)) = record { channels = omega arith; rate = omega arith; bits = omega arith; block = rw e (omega arith) }

-- a header with as many bytes behind it as it tells, or more
header_stands : (form : Form) (bytes : ℕ) (rest : List ℕ) → Fields form → 36 + bytes + bytes % 2 < 2 ^ 32 → bytes ≤ length rest →
    Stands (header form bytes ++ rest) form 16 bytes
unfolding header
header_stands form bytes rest f size enough =
    let all : bytes < 2 ^ 32 = omega arith in record {
      riff = refl;
      wave = refl;
      format = refl;
      no_data = refl;
      data_after = refl;
      told = omega (arith, from_le_bytes-to_le_bytes_4 _ size);
      long = refl;
      even = refl;
      some = omega arith;
      few = omega arith;
      all = refl;
      pcm = refl;
      channels = from_le_bytes-to_le_bytes_2 form.channels f.channels;
      rate = from_le_bytes-to_le_bytes_4 form.rate f.rate;
      block = from_le_bytes-to_le_bytes_2 (align form) f.block;
      bits = from_le_bytes-to_le_bytes_2 form.bits f.bits;
      size = from_le_bytes-to_le_bytes_4 bytes all;
      whole = omega arith;
    }

canon_stands : (form : Form) (samples : List ℤ) (bytes : ℕ) → IsWritten form samples → length (sound_bytes form.bits samples) ≡ bytes →
    36 + bytes + bytes % 2 < 2 ^ 32 → Stands (canon form samples) form 16 bytes
unfolding canon header
canon_stands form samples bytes h long fits = let sound = sound_bytes form.bits samples in let pad = replicate (length sound % 2) 0 in
    let size : 36 + length sound + length sound % 2 < 2 ^ 32 = rw long fits in
    subst (λ n. Stands (canon form samples) form 16 n) long
    (header_stands form (length sound) (sound ++ pad) (fields form (read_form form samples h)) size (omega (arith, length-append sound pad)))

-- a file that was written has all of its sound
pub canon_holds : (form : Form) (samples : List ℤ) → IsWritten form samples → 44 + length samples * (form.bits / 8) ≤ length (canon form samples)
canon_holds form samples h = let s : Stands (canon form samples) form 16 (length samples * (form.bits / 8)) =
    canon_stands form samples (length samples * (form.bits / 8)) h (length-sound_bytes form.bits samples) h.fits in s.whole

-- ---- the head

-- so many samples of so many bytes are so many frames
frames_are : (form : Form) (samples : List ℤ) → IsWritten form samples → length samples * (form.bits / 8) / align form ≡ length samples / form.channels
frames_are form samples h = ap (λ n. length samples * (form.bits / 8) / n) (mul_comm form.channels (form.bits / 8))
    ∙ sym (div-div-eq-div-mul (length samples * (form.bits / 8)) (form.bits / 8) form.channels)
    ∙ ap (λ n. n / form.channels) (mul-div_cancel (length samples) (some h.bits))
  where
    some : (form.bits ≡ 16) ⊎ (form.bits ≡ 24) → 0 < form.bits / 8
    some (inl e) = rw e (omega arith)
    some (inr e) = rw e (omega arith)

pub written_head_is_read : WrittenHeadIsRead
written_head_is_read told form samples h =
    head_stands told (canon form samples) form 16 (length samples * (form.bits / 8))
    (canon_stands form samples (length samples * (form.bits / 8)) h (length-sound_bytes form.bits samples) h.fits) (read_form form samples h)
    ∙ ap (λ n. Ok (record { form = form; data_at = 44; frames = n })) (frames_are form samples h)

-- ---- a header with anything behind it

-- the head of a file that begins with a written header
pub header_is_read : (told : Bool) (form : Form) (bytes : ℕ) (rest : List ℕ) → IsRead form → 36 + bytes + bytes % 2 < 2 ^ 32 → bytes ≤ length rest →
    head told (header form bytes ++ rest) ≡ Ok (record { form = form; data_at = 44; frames = bytes / align form })
header_is_read told form bytes rest h size enough =
    head_stands told (header form bytes ++ rest) form 16 bytes (header_stands form bytes rest (fields form h) size enough) h
