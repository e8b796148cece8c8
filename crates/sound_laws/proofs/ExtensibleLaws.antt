-- An extensible file is read, and sounds as the plain file with the same bytes of sound.
use Rattle.std.proofs.Common.{◌≡◌, ℕ, ◌+◌, ◌*◌, ◌/◌, ◌%◌, ◌^◌, ◌≤◌, ◌<◌, true, cond, ◌&&◌, nat_lt, nat_le, refl, ap, arith, ◌∙◌, sym, List, ◌++◌, length, drop, replicate, Ok}
use Rattle.std.specs.Prelude.{pos}
use Rattle.std.proofs.lemmas.Bool.Decides.{nat_tests}
use Rattle.std.proofs.lemmas.List.{length-append, drop-drop}
use Rattle.std.proofs.lemmas.Nat.{from_le_bytes-to_le_bytes_2, from_le_bytes-to_le_bytes_4}
use Rattle.sound_model.specs.Numbers.{sample_at}
use Rattle.sound_model.specs.Wav.{Form, align, head, sound, sound_by, header}
use Rattle.sound_laws.specs.Files.{IsRead, padded, plain_file, extensible_header, extensible_file, ExtensibleHeadIsRead, ExtensibleSoundsAsPlain}
use Rattle.sound_laws.proofs.HeadLaws.{Stands, head_stands}
use Rattle.sound_laws.proofs.WrittenLaws.{Fields, fields, header_is_read}

-- ---- the heads

-- an extensible header with as many bytes behind it as it tells, or more
extensible_stands : (form : Form) (valid mask bytes : ℕ) (rest : List ℕ) → Fields form → 60 + bytes + bytes % 2 < 2 ^ 32 → bytes ≤ length rest →
    Stands (extensible_header form valid mask bytes ++ rest) form 40 bytes
unfolding extensible_header
extensible_stands form valid mask bytes rest f size enough =
    let all : bytes < 2 ^ 32 = omega arith in record {
      riff = refl;
      wave = refl;
      format = refl;
      no_data = refl;
      data_after = refl;
      told = omega (arith, from_le_bytes-to_le_bytes_4 _ size);
      long = refl;
      even = refl;
      some = omega arith;
      few = omega arith;
      all = refl;
      pcm = refl;
      channels = from_le_bytes-to_le_bytes_2 form.channels f.channels;
      rate = from_le_bytes-to_le_bytes_4 form.rate f.rate;
      block = from_le_bytes-to_le_bytes_2 (align form) f.block;
      bits = from_le_bytes-to_le_bytes_2 form.bits f.bits;
      size = from_le_bytes-to_le_bytes_4 bytes all;
      whole = omega arith;
    }

long_enough : (bytes : List ℕ) → length bytes ≤ length (padded bytes)
long_enough bytes = omega (arith, length-append bytes (replicate (length bytes % 2) 0))

pub extensible_head_is_read : ExtensibleHeadIsRead
extensible_head_is_read told form valid mask bytes h =
    head_stands told (extensible_file form valid mask bytes) form 40 (length bytes)
    (extensible_stands form valid mask (length bytes) (padded bytes) (fields form h.read) h.fits (long_enough bytes)) h.read

plain_head : (form : Form) (bytes : List ℕ) → IsRead form → 36 + length bytes + length bytes % 2 < 2 ^ 32 →
    head true (plain_file form bytes) ≡ Ok (record { form = form; data_at = 44; frames = length bytes / align form })
plain_head form bytes h fits = header_is_read true form (length bytes) (padded bytes) h fits (long_enough bytes)

-- ---- the sound

drop_plain : (form : Form) (bytes : ℕ) (rest : List ℕ) (n : ℕ) → drop (44 + n) (header form bytes ++ rest) ≡ drop n rest
unfolding header
drop_plain form bytes rest n = sym (drop-drop n 44 (header form bytes ++ rest))

drop_extensible : (form : Form) (valid mask bytes : ℕ) (rest : List ℕ) (n : ℕ) → drop (68 + n) (extensible_header form valid mask bytes ++ rest) ≡ drop n rest
unfolding extensible_header
drop_extensible form valid mask bytes rest n = sym (drop-drop n 68 (extensible_header form valid mask bytes ++ rest))

length_plain : (form : Form) (bytes : ℕ) (rest : List ℕ) → length (header form bytes ++ rest) ≡ 44 + length rest
unfolding header
length_plain form bytes rest = omega arith

length_extensible : (form : Form) (valid mask bytes : ℕ) (rest : List ℕ) → length (extensible_header form valid mask bytes ++ rest) ≡ 68 + length rest
unfolding extensible_header
length_extensible form valid mask bytes rest = omega arith

-- two files with the same bytes from their sounds' places on have the same sound
same_sound : (form : Form) (p q frames : ℕ) (b d rest : List ℕ) (i c : ℕ) → length b ≡ p + length rest → length d ≡ q + length rest →
    ((n : ℕ) → drop (p + n) b ≡ drop n rest) → ((n : ℕ) → drop (q + n) d ≡ drop n rest) →
    sound (record { form = form; data_at = p; frames = frames }) b i c ≡ sound (record { form = form; data_at = q; frames = frames }) d i c
unfolding sound
same_sound form p q frames b d rest i c long_b long_d drop_b drop_d =
    ap (λ t. cond (nat_lt i frames && nat_lt c form.channels && t) (sample_at form.bits (drop (p + i * align form + c * (form.bits / 8)) b)) (pos 0)) whole
    ∙ ap (λ xs. cond (nat_lt i frames && nat_lt c form.channels && nat_le (q + i * align form + align form) (length d)) (sample_at form.bits xs) (pos 0)) same
  where
    whole : nat_le (p + i * align form + align form) (length b) ≡ nat_le (q + i * align form + align form) (length d)
    whole = rw (long_b, long_d) (grind (arith, nat_tests))

    place : (at : ℕ) → at + i * align form + c * (form.bits / 8) ≡ at + (i * align form + c * (form.bits / 8))
    place at = omega arith

    same : drop (p + i * align form + c * (form.bits / 8)) b ≡ drop (q + i * align form + c * (form.bits / 8)) d
    same = ap (λ n. drop n b) (place p) ∙ drop_b (i * align form + c * (form.bits / 8))
        ∙ sym (ap (λ n. drop n d) (place q) ∙ drop_d (i * align form + c * (form.bits / 8)))

pub extensible_sounds_as_plain : ExtensibleSoundsAsPlain
extensible_sounds_as_plain form valid mask bytes i c h =
    ap (λ r. sound_by r (extensible_file form valid mask bytes) i c) (extensible_head_is_read true form valid mask bytes h)
    ∙ same_sound form 68 44 (length bytes / align form) (extensible_file form valid mask bytes) (plain_file form bytes) (padded bytes) i c
    (length_extensible form valid mask (length bytes) (padded bytes)) (length_plain form (length bytes) (padded bytes))
    (drop_extensible form valid mask (length bytes) (padded bytes)) (drop_plain form (length bytes) (padded bytes))
    ∙ sym (ap (λ r. sound_by r (plain_file form bytes) i c) (plain_head form bytes h.read (omega (arith, h.fits))))
