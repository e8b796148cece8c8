-- What is said of files that are written and read.
use Rattle.std.specs.Prelude.{◌≡◌, ℕ, ◌+◌, ◌*◌, ◌/◌, ◌%◌, ◌^◌, ◌<◌, ◌≤◌, ◌⊎◌, ℤ, pos, Bool, List, ◌++◌, length, replicate, slice_index_or, None, Ok, codes}
use Rattle.std.specs.Int.{w16, w32, to_le_bytes}
use Rattle.sound_model.specs.Numbers.{file_sample, inner}
use Rattle.sound_model.specs.Wav.{Form, Head, align, extensible, pcm_subformat, walk, head, sound, file_sound, header, canon}

-- a form that is written, and as many whole frames of it as a file may hold
pub record IsWritten (form : Form) (samples : List ℤ) : Type 0 where
  pub channels : (1 ≤ form.channels) × (form.channels ≤ 8)
  pub rate : (8000 ≤ form.rate) × (form.rate ≤ 192000)
  pub bits : (form.bits ≡ 16) ⊎ (form.bits ≡ 24)
  pub whole : length samples % form.channels ≡ 0
  -- what the second field of the file tells, where the pad byte counts too
  pub fits : 36 + length samples * (form.bits / 8) + length samples * (form.bits / 8) % 2 < 2 ^ 32

-- the head of a file that was written
abbrev pub head_of : Form → List ℤ → Head
head_of form samples = record { form = form; data_at = 44; frames = length samples / form.channels }

abbrev pub WrittenHeadIsRead : Type 0
WrittenHeadIsRead = (told : Bool) (form : Form) (samples : List ℤ) → IsWritten form samples → head told (canon form samples) ≡ Ok (head_of form samples)

abbrev pub WrittenSoundIsRead : Type 0
WrittenSoundIsRead = (form : Form) (samples : List ℤ) (i c : ℕ) → IsWritten form samples → i < length samples / form.channels → c < form.channels →
    sound (head_of form samples) (canon form samples) i c ≡ inner form.bits (file_sample form.bits (slice_index_or samples (i * form.channels + c) (pos 0)))

-- no file has more chunks than bytes, so a longer walk finds the same
abbrev pub LongerWalkIsTheSame : Type 0
LongerWalkIsTheSame = (further : ℕ) (told : Bool) (b : List ℕ) → walk (further + length b) told b 12 None ≡ walk (length b) told b 12 None

-- ---- plain and extensible files

-- a form that is read
pub record IsRead (form : Form) : Type 0 where
  pub channels : (1 ≤ form.channels) × (form.channels ≤ 8)
  pub rate : (8000 ≤ form.rate) × (form.rate ≤ 192000)
  pub bits : (form.bits ≡ 8) ⊎ ((form.bits ≡ 16) ⊎ (form.bits ≡ 24))

-- these bytes of sound, and a zero pad byte where they are odd
abbrev pub padded : List ℕ → List ℕ
padded bytes = bytes ++ replicate (length bytes % 2) 0

-- the file with a format of 16 bytes and these bytes of sound
abbrev pub plain_file : Form → List ℕ → List ℕ
plain_file form bytes = header form (length bytes) ++ padded bytes

-- the 68 bytes before so many bytes of sound in an extensible file that tells these valid bits and this mask of channels
unfoldable pub extensible_header : Form → ℕ → ℕ → ℕ → List ℕ
extensible_header form valid mask bytes = codes "RIFF" ++ to_le_bytes w32 (60 + bytes + bytes % 2) ++ codes "WAVE"
    ++ codes "fmt " ++ to_le_bytes w32 40 ++ to_le_bytes w16 extensible ++ to_le_bytes w16 form.channels ++ to_le_bytes w32 form.rate
    ++ to_le_bytes w32 (form.rate * align form) ++ to_le_bytes w16 (align form) ++ to_le_bytes w16 form.bits
    ++ to_le_bytes w16 22 ++ to_le_bytes w16 valid ++ to_le_bytes w32 mask ++ pcm_subformat
    ++ codes "data" ++ to_le_bytes w32 bytes

-- the extensible file with these bytes of sound
abbrev pub extensible_file : Form → ℕ → ℕ → List ℕ → List ℕ
extensible_file form valid mask bytes = extensible_header form valid mask (length bytes) ++ padded bytes

-- a form that is read, and numbers that fit the fields of an extensible file
pub record IsExtensible (form : Form) (valid mask : ℕ) (bytes : List ℕ) : Type 0 where
  pub read : IsRead form
  pub valid_bits : valid < 2 ^ 16
  pub channel_mask : mask < 2 ^ 32
  -- what the second field of the file tells, where the pad byte counts too
  pub fits : 60 + length bytes + length bytes % 2 < 2 ^ 32

abbrev pub ExtensibleHeadIsRead : Type 0
ExtensibleHeadIsRead = (told : Bool) (form : Form) (valid mask : ℕ) (bytes : List ℕ) → IsExtensible form valid mask bytes →
    head told (extensible_file form valid mask bytes) ≡ Ok (record { form = form; data_at = 68; frames = length bytes / align form })

abbrev pub ExtensibleSoundsAsPlain : Type 0
ExtensibleSoundsAsPlain = (form : Form) (valid mask : ℕ) (bytes : List ℕ) (i c : ℕ) → IsExtensible form valid mask bytes →
    file_sound (extensible_file form valid mask bytes) i c ≡ file_sound (plain_file form bytes) i c
