-- The sounds of a run, from the bytes of its files and of its input.
use Rattle.std.specs.Prelude.{ℕ, ◌+◌, ◌-◌, ◌*◌, ℤ, pos, false, min, List, drop, Option, Some, None, Result, Ok, Err, slice_get}
use Rattle.sound_model.specs.Regions.{Sounds}
use Rattle.sound_model.specs.Wav.{Head, Refusal, align, file_sound, head, sound_by}
use Rattle.ses_io.specs.Files.{Files, content}
use Rattle.session_model.specs.declared.session.Session.{Session}
use Rattle.session_model.specs.declared.session.SourceDecl.{SourceDecl}
use Rattle.session_model.specs.declared.edit.Edit.{Edit}
use Rattle.engine_model.specs.Played.{Samples, samples_of}
use Rattle.engine_model.specs.Takes.{Input}

-- ---- the sources

-- the sample of frame i and channel c of a source's file; there is none where there is no source
abbrev pub sample_in : Files → Option SourceDecl → ℕ → ℕ → ℤ
sample_in files None i c = pos 0
sample_in files (Some d) i c = file_sound (content files d.file) i c

-- the sounds of a session's sources, as their files hold them
abbrev pub sounds_in : Files → Session → Sounds
sounds_in files s n i c = sample_in files (slice_get s.sources.items n) i c

-- those of its tracks, after these edits
abbrev pub samples_in : Files → Session → List Edit → Samples
samples_in files s edits = samples_of (sounds_in files s) s edits

-- ---- the input

-- the sound of an input with these bytes: a WAV stream whose size isn't told. What isn't read, or is empty, is silent
abbrev pub input_sound : List ℕ → Input
input_sound bytes = sound_by (head false bytes) bytes

-- what is left of an input once its head and the frames of so many blocks were read, as far as it has them
abbrev pub left_after : Result Head Refusal → ℕ → List ℕ → List ℕ
left_after (Err why) frames bytes = bytes
left_after (Ok h) frames bytes = drop (h.data_at + min frames h.frames * align h.form) bytes

abbrev pub input_left : Session → ℕ → List ℕ → List ℕ
input_left s blocks bytes = left_after (head false bytes) (blocks * s.block) bytes

-- the bytes of the block behind so many, of which the last is short: there may be none
abbrev pub bytes_of_block : Result Head Refusal → Session → ℕ → ℕ
bytes_of_block (Err why) s blocks = 0
bytes_of_block (Ok h) s blocks = min (h.frames - blocks * s.block) s.block * align h.form
