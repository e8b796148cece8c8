-- The frames of opened sources are the sound of the files that were named.
use Rattle.std.specs.Prelude.{◌≡◌, ℕ, List, slice_get, Some}
use Rattle.sound_model.specs.Wav.{file_sound}
use Rattle.ses_io.specs.Files.{Files, content}
use Rattle.session_model.specs.declared.session.SourceDecl.{SourceDecl}
use Rattle.session_model.specs.Frames.{sounds_of}
use Rattle.audio_source.specs.Opened.{OpenedSource, IsOpened}
use Rattle.audio_source.specs.Told.{source_sound, all_told}

-- where the files are those that were opened
abbrev pub FramesAreTheFiles : Type 0
FramesAreTheFiles = (files : Files) (rate : ℕ) (list : List SourceDecl) (opened : List OpenedSource) (s : ℕ) (d : SourceDecl) (i c : ℕ) →
    IsOpened files rate list opened → slice_get list s ≡ Some d → source_sound files opened s i c ≡ file_sound (content files d.file) i c

-- the lists of frames hold the same samples
abbrev pub ListsHoldTheFrames : Type 0
ListsHoldTheFrames = (files : Files) (opened : List OpenedSource) (s i c : ℕ) → sounds_of (all_told files opened) s i c ≡ source_sound files opened s i c
