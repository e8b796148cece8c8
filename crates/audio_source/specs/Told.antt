-- The frames of opened sources, by the bytes that their files hold.
use Rattle.std.specs.Prelude.{ℕ, ℤ, pos, List, map, slice_get, Option, Some, None}
use Rattle.std.specs.List.{range_with_len}
use Rattle.sound_model.specs.Wav.{sound}
use Rattle.ses_io.specs.Files.{Files, content}
use Rattle.session_model.specs.Frames.{Told}
use Rattle.audio_source.specs.Opened.{OpenedSource}

-- the sample of frame i and channel c of a source, 0 where there is none
abbrev pub sample_by : Files → Option OpenedSource → ℕ → ℕ → ℤ
sample_by files None i c = pos 0
sample_by files (Some o) i c = sound o.head (content files o.file) i c

abbrev pub source_sound : Files → List OpenedSource → ℕ → ℕ → ℕ → ℤ
source_sound files opened s i c = sample_by files (slice_get opened s) i c

-- a source as the list of its frames
abbrev pub told_by : Files → OpenedSource → Told
told_by files o = map (λ i. map (λ c. sound o.head (content files o.file) i c) (range_with_len 0 o.head.form.channels)) (range_with_len 0 o.head.frames)

abbrev pub all_told : Files → List OpenedSource → List Told
all_told files opened = map (told_by files) opened
