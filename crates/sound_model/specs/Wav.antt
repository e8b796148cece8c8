-- A WAV file as a whole list of bytes (RIFF WAVE 1.0, the extensible format of WAVE, and this project's own rules of what is read).
-- A chunk is four bytes of name, four of size with the low byte first, that many bytes, and a pad byte after an odd number.
use Rattle.std.specs.Prelude.{ℕ, zero, suc, ◌+◌, ◌-◌, ◌*◌, ◌/◌, ◌%◌, ℤ, pos, Bool, true, not, ◌&&◌, ◌||◌, ◌==◌, nat_lt, nat_le, if◌then◌else◌, List, [], ◌∷◌, ◌++◌, length, take, drop, replicate, flat_map, Option, Some, None, Result, Ok, Err, codes, bytes_eq}
use Rattle.std.specs.Int.{w16, w32, to_le_bytes}
use Rattle.sound_model.specs.Numbers.{number, sample_at, sample_bytes}

pub record Form : Type 0 where
  pub channels : ℕ
  -- frames per second
  pub rate : ℕ
  pub bits : ℕ

-- what stands before the sound: the form, the place of the first byte of the sound, and how many whole frames are told
pub record Head : Type 0 where
  pub form : Form
  pub data_at : ℕ
  pub frames : ℕ

-- why a list of bytes isn't read
pub data Refusal : Type 0 where
  NotRiff : Refusal
  NotWave : Refusal
  -- the place at which the next chunk would stand
  HeadTooLong : ℕ → Refusal
  NoData : Refusal
  NoFormat : Refusal
  -- the bytes of the `fmt ` chunk
  FormatShort : ℕ → Refusal
  -- the field that isn't read
  Format : ℕ → Refusal
  Channels : ℕ → Refusal
  Bits : ℕ → Refusal
  Rate : ℕ → Refusal
  Align : ℕ → Refusal
  -- the bytes that `data` tells, and those that are there
  Truncated : ℕ → ℕ → Refusal

infixl 10 ◌>>=◌
abbrev pub ◌>>=◌ : {A B : Type 0} → Result A Refusal → (A → Result B Refusal) → Result B Refusal
(Ok x) >>= f = f x
(Err e) >>= f = Err e

-- the bytes of one frame
abbrev pub align : Form → ℕ
align form = form.channels * (form.bits / 8)

abbrev pub begins_at : List ℕ → ℕ → List ℕ → Bool
begins_at b p word = bytes_eq (take (length word) (drop p b)) word

-- ---- chunks

-- no chunk header is looked for past this place
abbrev pub last_place : ℕ
last_place = 16777216

-- a chunk stands at p: its eight bytes lie within the file, and within what the file's second field tells
abbrev pub stands : List ℕ → ℕ → Bool
stands b p = nat_le (p + 8) (8 + number 4 (drop 4 b)) && nat_le (p + 8) (length b)

abbrev pub size_at : List ℕ → ℕ → ℕ
size_at b p = number 4 (drop (p + 4) b)

-- the place after the chunk at p
abbrev pub after : List ℕ → ℕ → ℕ
after b p = p + 8 + size_at b p + size_at b p % 2

-- ---- the form

-- the tag of PCM, and the one that leaves the kind of sound to a subformat
abbrev pub pcm : ℕ
pcm = 1

abbrev pub extensible : ℕ
extensible = 65534

-- the subformat that is PCM
abbrev pub pcm_subformat : List ℕ
pcm_subformat = 0x01 ∷ 0x00 ∷ 0x00 ∷ 0x00 ∷ 0x00 ∷ 0x00 ∷ 0x10 ∷ 0x00 ∷ 0x80 ∷ 0x00 ∷ 0x00 ∷ 0xaa ∷ 0x00 ∷ 0x38 ∷ 0x9b ∷ 0x71 ∷ []

-- the extension of a `fmt ` chunk with these bytes has 22 bytes or more, and its subformat is PCM's.
-- The valid bits at byte 18 and the mask of channels at byte 20 aren't looked at
abbrev pub extends_to_pcm : List ℕ → Bool
extends_to_pcm bytes = nat_le 22 (number 2 (drop 16 bytes)) && begins_at bytes 24 pcm_subformat

-- a `fmt ` chunk with these bytes tells PCM, by its tag or by its subformat
abbrev pub is_pcm : List ℕ → Bool
is_pcm bytes = number 2 bytes == pcm || (number 2 bytes == extensible && extends_to_pcm bytes)

-- the form of these five fields, or the first of them that isn't read; whether the tag is read is said before it
abbrev pub form_of : Bool → ℕ → ℕ → ℕ → ℕ → ℕ → Result Form Refusal
form_of read tag channels rate block bits =
    if not read then Err (Format tag)
    else (if nat_lt channels 1 || nat_lt 8 channels then Err (Channels channels)
    else (if not (bits == 8 || bits == 16 || bits == 24) then Err (Bits bits)
    else (if nat_lt rate 8000 || nat_lt 192000 rate then Err (Rate rate)
    else (if not (block == channels * (bits / 8)) then Err (Align block)
    else Ok (record { channels = channels; rate = rate; bits = bits })))))

-- the form that the bytes of a `fmt ` chunk give
abbrev pub form_in : List ℕ → Result Form Refusal
form_in bytes = form_of (is_pcm bytes) (number 2 bytes) (number 2 (drop 2 bytes)) (number 4 (drop 4 bytes))
    (number 2 (drop 12 bytes)) (number 2 (drop 14 bytes))

-- a `fmt ` chunk of n bytes at p is below 16 bytes, or cut by the end of the file, or extensible and below 40
abbrev pub is_short : List ℕ → ℕ → ℕ → Bool
is_short b p n = nat_lt n 16 || nat_lt (length b) (p + 8 + n) || (number 2 (drop (p + 8) b) == extensible && nat_lt n 40)

-- the form of the `fmt ` chunk at p
abbrev pub format_at : List ℕ → ℕ → Result Form Refusal
format_at b p = if is_short b p (size_at b p) then Err (FormatShort (size_at b p)) else form_in (drop (p + 8) b)

-- the form after the chunk at p, which isn't `data`: the first `fmt ` gives it, and every other chunk is skipped
abbrev pub form_after : List ℕ → ℕ → Option Form → Result (Option Form) Refusal
form_after b p (Some form) = Ok (Some form)
form_after b p None = if begins_at b p (codes "fmt ") then (format_at b p >>= λ form. Ok (Some form)) else Ok None

-- ---- the head

-- the head where `data` stands at p. Where the size of the file was told, all of `data` is there
abbrev pub head_at : Bool → List ℕ → ℕ → Option Form → Result Head Refusal
head_at told b p None = Err NoFormat
head_at told b p (Some form) =
    if told && nat_lt (length b) (p + 8 + size_at b p) then Err (Truncated (size_at b p) (length b - (p + 8)))
    else Ok (record { form = form; data_at = p + 8; frames = size_at b p / align form })

-- where no chunk is left to be looked at
abbrev pub end_at : ℕ → Refusal
end_at p = if nat_lt last_place p then HeadTooLong p else NoData

-- the walk from the chunk at p on, over at most so many chunks, with the form found so far
unfoldable pub walk : ℕ → Bool → List ℕ → ℕ → Option Form → Result Head Refusal
walk zero told b p form = Err (end_at p)
walk (suc chunks) told b p form =
    if nat_lt last_place p || not (stands b p) then Err (end_at p)
    else (if begins_at b p (codes "data") then head_at told b p form
    else (form_after b p form >>= λ found. walk chunks told b (after b p) found))

-- The head of a file, or why it isn't read: the first thing wrong on the walk. The second argument is the whole file;
-- the first says whether its size was told before. No file has more chunks than bytes.
unfoldable pub head : Bool → List ℕ → Result Head Refusal
head told b =
    if nat_lt (length b) 12 || not (begins_at b 0 (codes "RIFF")) then Err NotRiff
    else (if not (begins_at b 8 (codes "WAVE")) then Err NotWave
    else walk (length b) told b 12 None)

-- ---- the sound

-- the sample of frame i and channel c of a file with this head; a frame that isn't whole, or isn't there, is silence
unfoldable pub sound : Head → List ℕ → ℕ → ℕ → ℤ
sound h b i c = let frame = h.data_at + i * align h.form in
    if nat_lt i h.frames && nat_lt c h.form.channels && nat_le (frame + align h.form) (length b)
    then sample_at h.form.bits (drop (frame + c * (h.form.bits / 8)) b) else pos 0

abbrev pub sound_by : Result Head Refusal → List ℕ → ℕ → ℕ → ℤ
sound_by (Ok h) b i c = sound h b i c
sound_by (Err e) b i c = pos 0

-- the sample of frame i and channel c of a whole file, by its own head; a file that isn't read is silent
abbrev pub file_sound : List ℕ → ℕ → ℕ → ℤ
file_sound b i c = sound_by (head true b) b i c

-- the 44 bytes before so many bytes of sound
unfoldable pub header : Form → ℕ → List ℕ
header form bytes = codes "RIFF" ++ to_le_bytes w32 (36 + bytes + bytes % 2) ++ codes "WAVE"
    ++ codes "fmt " ++ to_le_bytes w32 16 ++ to_le_bytes w16 1 ++ to_le_bytes w16 form.channels ++ to_le_bytes w32 form.rate
    ++ to_le_bytes w32 (form.rate * align form) ++ to_le_bytes w16 (align form) ++ to_le_bytes w16 form.bits
    ++ codes "data" ++ to_le_bytes w32 bytes

-- the bytes of these samples, one after another, in a file of 16 or of 24 bits
abbrev pub sound_bytes : ℕ → List ℤ → List ℕ
sound_bytes bits samples = flat_map (sample_bytes bits) samples

-- the file that is written of these samples, which stand frame by frame
unfoldable pub canon : Form → List ℤ → List ℕ
canon form samples = let sound = sound_bytes form.bits samples in
    header form (length sound) ++ sound ++ replicate (length sound % 2) 0
