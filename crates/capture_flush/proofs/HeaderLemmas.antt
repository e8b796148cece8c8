-- The header of a take: its form, that its size fits, and of how many blocks it tells.
use Rattle.std.proofs.Common.{◌≡◌, ℕ, ◌+◌, ◌*◌, ◌/◌, ◌%◌, ◌^◌, ◌<◌, ◌≤◌, Bool, true, false, List, ◌++◌, length, drop, refl, ap, ap₂, ◌∙◌, arith}
use Rattle.std.specs.Prelude.{nat_lt, min, max, if◌then◌else◌}
use Rattle.std.proofs.Math.Nat.{lt-div-mul-add}
use Rattle.std.proofs.lemmas.Bool.{ltb-true}
use Rattle.ses_units.specs.declared.bits.Bits.{Bits}
use Rattle.ses_units.specs.declared.bits.Bits.TheVariants.{B16, B24}
use Rattle.ses_units.specs.Bits.{bits_of}
use Rattle.sound_model.specs.Wav.{Form, align, header}
use Rattle.session_model.specs.declared.session.Session.{Session}
use Rattle.session_model.specs.Formed.{channels_at}
use Rattle.engine_model.specs.Takes.{take_form}
use Rattle.wav_codec.specs.declared.form.WavForm.{WavForm}
use Rattle.wav_codec.specs.Form.{written_form, data_bytes}
use Rattle.capture_flush.specs.Flushed.{block_bytes, head_of, no_blocks, second_blocks, stated}
use Rattle.capture_flush.specs.Laws.{AHeadKeepsUp, KeepsUp}
use Rattle.capture_flush.specs.Taking.{Taking, IsTakingOf}

three_bytes : (bits : Bits) → bits_of bits / 8 ≤ 3
three_bytes B16 = omega arith
three_bytes B24 = omega arith

below : (n : ℕ) → n ≤ 2457600000 → 36 + n + n % 2 < 2 ^ 32
below n most = omega (arith, most)

few_frames : (blocks block : ℕ) → blocks ≤ 100000 → block ≤ 4096 → blocks * block ≤ 409600000
few_frames blocks block few most = grind (arith, few, most)

few_wide : (channels width : ℕ) → channels ≤ 2 → width ≤ 3 → channels * width ≤ 6
few_wide channels width few most = grind (arith, few, most)

few_in_all : (frames align : ℕ) → frames ≤ 409600000 → align ≤ 6 → frames * align ≤ 2457600000
few_in_all frames align few most = grind (arith, few, most)

-- the size fits 32 bits
pub size_fits : (form : WavForm) (blocks block : ℕ) → blocks ≤ 100000 → block ≤ 4096 → form.channels ≤ 2 → 36 + data_bytes form (blocks * block) + data_bytes form (blocks * block) % 2 < 2 ^ 32
size_fits form blocks block few most channels = below (data_bytes form (blocks * block))
    (few_in_all (blocks * block) (align (written_form form)) (few_frames blocks block few most) (few_wide form.channels (bits_of form.bits / 8) channels (three_bytes form.bits)))

product : (a b c d : ℕ) → a * b * (c * d) ≡ a * (b * c * d)
product a b c d = grind arith

-- the header of so many blocks of a track
pub header_is : (s : Session) (f : Taking) (t blocks : ℕ) (form : WavForm) → IsTakingOf s f → form.channels ≡ channels_at s t → form.rate ≡ f.rate → form.bits ≡ f.bits →
    header (written_form form) (data_bytes form (blocks * f.block)) ≡ header (take_form s t) (blocks * block_bytes s t)
header_is s f t blocks form taking channels rate bits =
    let is : written_form form ≡ take_form s t = ap (λ c. written_form (record form { channels = c })) channels ∙ ap (λ r. written_form (record form { channels = channels_at s t; rate = r })) (rate ∙ taking.rate)
    ∙ ap (λ b. written_form (record { channels = channels_at s t; rate = s.rate; bits = b })) (bits ∙ taking.bits) in
    ap₂ header is (ap₂ (λ w b. blocks * b * align w) is taking.block ∙ product blocks s.block (channels_at s t) (bits_of s.bits / 8))

-- ---- its bytes

pub header_long : (form : Form) (bytes : ℕ) → length (header form bytes) ≡ 44
unfolding header
header_long form bytes = omega arith

pub behind_header : (form : Form) (bytes : ℕ) (rest : List ℕ) → drop 44 (header form bytes ++ rest) ≡ rest
unfolding header
behind_header form bytes rest = refl

pub head_is : (s : Session) (t n : ℕ) → head_of s t n ≡ header (take_form s t) (stated s t n * block_bytes s t)
unfolding head_of
head_is s t n = refl

pub head_long : (s : Session) (t n : ℕ) → length (head_of s t n) ≡ 44
head_long s t n = ap length (head_is s t n) ∙ header_long (take_form s t) (stated s t n * block_bytes s t)

pub behind_head : (s : Session) (t n : ℕ) (rest : List ℕ) → drop 44 (head_of s t n ++ rest) ≡ rest
behind_head s t n rest = ap (λ h. drop 44 (h ++ rest)) (head_is s t n) ∙ behind_header (take_form s t) (stated s t n * block_bytes s t) rest

-- ---- of how many blocks it tells

-- of none where none stands
none_stated : (s : Session) (t : ℕ) → stated s t 0 ≡ 0
none_stated s t = by (nat_lt (block_bytes s t) 44)
  where
    by : (b : Bool) → (if b then min (min 0 100000) 1 else min (min 0 100000) (max 1 (min 0 100000 / second_blocks s * second_blocks s))) ≡ 0
    by true = omega arith
    by false = omega arith

pub head_of_none : (s : Session) (t : ℕ) → head_of s t 0 ≡ no_blocks s t
head_of_none s t = head_is s t 0 ∙ ap (λ k. header (take_form s t) (k * block_bytes s t)) (none_stated s t)

-- whole seconds lack less than one
within_second : (s : Session) (few : ℕ) → few < few / second_blocks s * second_blocks s + second_blocks s
within_second s few = lt-div-mul-add (omega arith)

pub a_head_keeps_up : AHeadKeepsUp
a_head_keeps_up s t blocks = by (nat_lt (block_bytes s t) 44) refl
  where
    few : ℕ
    few = min blocks 100000

    told : Bool → ℕ
    told b = if b then min few 1 else min few (max 1 (few / second_blocks s * second_blocks s))

    by : (b : Bool) → nat_lt (block_bytes s t) 44 ≡ b → KeepsUp s t blocks
    by true short = let is : stated s t blocks ≡ told true = ap told short in record {
      most = omega (arith, is);
      least = λ some. omega (arith, is, some);
      lacks = λ long low. let lt = ltb-true (block_bytes s t) 44 short in absurd (omega (arith, lt, long));
    }
    by false short = let is : stated s t blocks ≡ told false = ap told short in record {
      most = omega (arith, is);
      least = λ some. omega (arith, is, some);
      lacks = λ long low. let most : min blocks 100000 ≡ blocks = omega (arith, low) in let near = within_second s (min blocks 100000) in omega (arith, is, low, near);
    }
