-- What contracts see of what samples are read from.
use Rattle.std.specs.Prelude.{◌≡◌, ℕ, ◌≤◌}
use Rattle.ses_io.specs.Outside.{MediaOutside}
use Rattle.session_model.specs.Valid.{IsValid}
use Rattle.audio_source.specs.Opened.{IsListed}
use Rattle.audio_source.specs.Lines.{SourcesState, HoldsAsRead}
use Rattle.read_ahead.specs.Pass.{PassState}

pub record ReaderState (V : Type 0) : Type 0 where
  pub media : V
  -- the sources that were opened, and the lines of them that are held
  pub sources : SourcesState
  -- the frames that there is room for
  pub room : ℕ

-- the files are known, and each line that is held is as they have it
pub record IsTold {V : Type 0} (outside : MediaOutside V) (r : ReaderState V) : Type 0 where
  pub tells : outside.tells
  pub lines : HoldsAsRead (outside.files r.media) r.sources

-- what a pass may read from
pub record IsReady {V : Type 0} (r : ReaderState V) (pass : PassState) : Type 0 where
  pub valid : IsValid pass.edition.session
  pub listed : IsListed pass.edition.session.rate pass.edition.session.sources.items r.sources.opened
  pub room : r.room ≡ pass.edition.session.block
  pub near : pass.cycles ≤ 100000
