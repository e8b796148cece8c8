-- How far a scan of a file's head has come, and what that says of the file.
use Rattle.std.specs.Prelude.{◌≡◌, ℕ, ◌+◌, ◌%◌, ◌<◌, ◌≤◌, Bool, ◌&&◌, nat_lt, if◌then◌else◌, List, length, take, drop, Option, Some, None, is_some, Result, Err}
use Rattle.sound_model.specs.Numbers.{number}
use Rattle.sound_model.specs.Wav.{Form, Head, Refusal, FormatShort, ◌>>=◌, begins_at, last_place, pcm_subformat, extends_to_pcm, form_in, is_short, walk, head}
use Rattle.wav_codec.specs.Fields.{form_given, with_pcm}
use Rattle.wav_codec.specs.declared.fields.Fields.{Fields}
use Rattle.wav_codec.specs.declared.scan.Stage.{Stage}
use Rattle.wav_codec.specs.declared.scan.Stage.TheVariants.{Riff, Chunk, Format, Extension, Subformat, FormatEnd}

pub record Progress : Type 0 where
  -- the size of the file, where it was told
  pub size : Option ℕ
  -- what is asked for next
  pub stage : Stage

abbrev pub scan_of : Option ℕ → Stage → Progress
scan_of size stage = record { size = size; stage = stage }

-- ---- what is asked for

abbrev pub place_of : Stage → ℕ
place_of Riff = 0
place_of (Chunk riff_size at form) = at
place_of (Format riff_size at chunk_size) = at + 8
place_of (Extension riff_size at chunk_size fields) = at + 24
place_of (Subformat riff_size at chunk_size fields) = at + 40
place_of (FormatEnd riff_size at chunk_size fields) = at + 7 + chunk_size

abbrev pub long_of : Stage → ℕ
long_of Riff = 12
long_of (Chunk riff_size at form) = 8
long_of (Format riff_size at chunk_size) = 16
long_of (Extension riff_size at chunk_size fields) = 16
long_of (Subformat riff_size at chunk_size fields) = 8
long_of (FormatEnd riff_size at chunk_size fields) = 1

-- the place and the number of the bytes that are asked for, and the place after them
abbrev pub wanted_at : Progress → ℕ
wanted_at p = place_of p.stage

abbrev pub wanted_long : Progress → ℕ
wanted_long p = long_of p.stage

abbrev pub wanted_end : Progress → ℕ
wanted_end p = wanted_at p + wanted_long p

-- those bytes of a file, fewer where it ends
abbrev pub wanted : Progress → List ℕ → List ℕ
wanted p b = take (wanted_long p) (drop (wanted_at p) b)

-- ---- what is known of the file

abbrev pub HasSize : Option ℕ → List ℕ → Type 0
HasSize None b = Unit {0}
HasSize (Some size) b = length b ≡ size

-- the file's second field, where it was given
abbrev pub HasRiff : Stage → List ℕ → Type 0
HasRiff Riff b = Unit {0}
HasRiff (Chunk riff_size at form) b = riff_size ≡ number 4 (drop 4 b)
HasRiff (Format riff_size at chunk_size) b = riff_size ≡ number 4 (drop 4 b)
HasRiff (Extension riff_size at chunk_size fields) b = riff_size ≡ number 4 (drop 4 b)
HasRiff (Subformat riff_size at chunk_size fields) b = riff_size ≡ number 4 (drop 4 b)
HasRiff (FormatEnd riff_size at chunk_size fields) b = riff_size ≡ number 4 (drop 4 b)

-- the walk from the first `fmt ` chunk on, which stands at a place and gives this
abbrev pub walk_from_format : Bool → List ℕ → ℕ → ℕ → Result Form Refusal → Result Head Refusal
walk_from_format told b at chunk_size given =
    given >>= λ form. walk (length b) told b (at + 8 + chunk_size + chunk_size % 2) (Some form)

-- what these fields give, where all bytes of the chunk are there
abbrev pub whole_form : List ℕ → ℕ → ℕ → Fields → Result Form Refusal
whole_form b at chunk_size fields =
    if nat_lt (length b) (at + 8 + chunk_size) then Err (FormatShort chunk_size) else form_given fields

-- what is left of the walk
abbrev pub rest_of : Bool → List ℕ → Stage → Result Head Refusal
rest_of told b Riff = head told b
rest_of told b (Chunk riff_size at form) = walk (length b) told b at form
rest_of told b (Format riff_size at chunk_size) =
    walk_from_format told b at chunk_size
    (if is_short b at chunk_size then Err (FormatShort chunk_size) else form_in (drop (at + 8) b))
rest_of told b (Extension riff_size at chunk_size fields) =
    walk_from_format told b at chunk_size
    (whole_form b at chunk_size (with_pcm (extends_to_pcm (drop (at + 8) b)) fields))
rest_of told b (Subformat riff_size at chunk_size fields) =
    walk_from_format told b at chunk_size
    (whole_form b at chunk_size (with_pcm (fields.pcm && begins_at b (at + 40) (drop 8 pcm_subformat)) fields))
rest_of told b (FormatEnd riff_size at chunk_size fields) =
    walk_from_format told b at chunk_size (whole_form b at chunk_size fields)

-- whether the size was told
abbrev pub told : Progress → Bool
told p = is_some p.size

-- what was given so far fits the file b
pub record Agrees (p : Progress) (b : List ℕ) : Type 0 where
  -- b has the size that was told
  pub size : HasSize p.size b
  -- its second field is the one that was given
  pub riff : HasRiff p.stage b
  -- and its head is what is left of the walk
  pub rest : head (told p) b ≡ rest_of (told p) b p.stage

-- a chunk that is asked for stands where one may, and a `fmt ` chunk has its fields, and its extension
abbrev pub IsInRange : Stage → Type 0
IsInRange Riff = Unit {0}
IsInRange (Chunk riff_size at form) = (at ≤ last_place) × (at ≤ riff_size)
IsInRange (Format riff_size at chunk_size) = (at ≤ last_place) × (16 ≤ chunk_size)
IsInRange (Extension riff_size at chunk_size fields) = (at ≤ last_place) × (40 ≤ chunk_size)
IsInRange (Subformat riff_size at chunk_size fields) = (at ≤ last_place) × (40 ≤ chunk_size)
IsInRange (FormatEnd riff_size at chunk_size fields) = (at ≤ last_place) × (16 < chunk_size)
