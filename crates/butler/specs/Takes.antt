-- What is so of take files while a butler serves.
use Rattle.std.specs.Prelude.{◌≡◌, ℕ, ◌+◌, ◌-◌, ◌^◌, ◌≤◌, min, false, List, [], ◌++◌, length, slice_get, Some, IsSome, codes}
use Rattle.ses_io.specs.Files.{Files, HasNameUnder}
use Rattle.ses_io.specs.Outside.{MediaOutside}
use Rattle.session_model.specs.declared.session.Session.{Session}
use Rattle.audio_source.specs.Opened.{OpenedSource}
use Rattle.capture_flush.specs.Flushed.{IsFlushed}
use Rattle.capture_drain.specs.Files.{RunStart, tape_of}
use Rattle.butler.specs.ButlerState.{ButlerState}

-- Tracks may be recorded: no file is named as takes are, and the files of the sources are there.
pub record MayRecord (s : Session) (files : Files) (opened : List OpenedSource) : Type 0 where
  pub fresh : ¬ (HasNameUnder files (s.takes ++ codes "-"))
  pub there : (i : ℕ) (o : OpenedSource) → slice_get opened i ≡ Some o → IsSome (files o.file)

-- What the butler wrote since so many writes had failed: the take files hold just the blocks that it received, and of a take that
-- failed a front of them.
pub record HoldsTakes {V : Type 0} (media : MediaOutside V) (run : RunStart) (faults : ℕ) (b : ButlerState V) : Type 0 where
  pub flushed : IsFlushed (tape_of run b.ends.takes.items) b.drain.files (media.files b.media)
  -- none has failed where no write has
  pub none_failed : b.write_failed ≡ false → b.drain.files.failed ≡ []
  -- and no more have than writes did; the count stands still at its end
  pub many : min (faults + length b.drain.files.failed) (2 ^ 64 - 1) ≤ media.write_faults b.media
