-- What a call that reads frames leaves of the sources and of the media with their files.
use Rattle.std.specs.Prelude.{◌≡◌, Result}
use Rattle.ses_io.specs.Outside.{MediaOutside, OnlyReads, ReadCause}
use Rattle.audio_source.specs.Lines.{SourcesState, HoldsAsRead}

-- Sources after calls that read their files.
pub record IsReadOn {V T E : Type 0} (outside : MediaOutside V) (old new : V) (before now : SourcesState) (result : Result T E) : Type 0 where
  -- each line that is held is still as the files have it
  pub holds : outside.tells → HoldsAsRead (outside.files old) before → HoldsAsRead (outside.files old) now
  -- the same sources are opened
  pub opened : now.opened ≡ before.opened
  -- no file changed, and no write failed
  pub only_reads : OnlyReads outside old new
  -- a fault comes only where the count of failed reads rose
  pub cause : ReadCause outside old new result
