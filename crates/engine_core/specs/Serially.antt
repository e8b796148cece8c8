-- What a run without letters leaves, whatever has failed.
use Rattle.std.specs.Prelude.{◌≡◌, ℕ, ◌<◌, false, List, [], length, reverse}
use Rattle.session_model.specs.declared.session.Session.{Session}
use Rattle.engine_model.specs.Journal.{Entry}
use Rattle.engine_model.specs.Truth.{losses}
use Rattle.run_world.specs.declared.finished.Finished.{Finished}
use Rattle.engine_core.specs.Fed.{PlayAsPlain}
use Rattle.run_end.specs.Finished.{journal_of}

-- no entry lost a block of a take
abbrev pub TakesAll : Session → List Entry → Type 0
TakesAll s journal = (t : ℕ) → t < length s.tracks.items → losses t journal ≡ []

-- **No block of a take is lost, and unless a read of the media has failed each entry plays as the plain one.**
pub record GoesSerially {M I C W O : Type 0} (s : Session) (f : Finished M I C W O) : Type 0 where
  pub takes_all : TakesAll s (journal_of f)
  pub plays : f.faults.read ≡ false → PlayAsPlain s f.edits.items (reverse (journal_of f))
