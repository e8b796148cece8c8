-- A butler beside a process, whether or not their ends have met.
use Rattle.std.specs.Prelude.{◌≡◌, false}
use mathlib.Core.List.{IsPrefix}
use Rattle.ses_io.specs.Outside.{MediaOutside}
use Rattle.edition_log.specs.EditionState.{IsEditionOf}
use Rattle.butler.specs.Serving.{IsServing, IsTrueTo}
use Rattle.process_ends.specs.Ends.{AreOtherEnds}
use Rattle.worker_pair.specs.declared.ending.Ending.{Ending}
use Rattle.worker_pair.specs.Begun.{At}
use Rattle.worker_pair.specs.Never.{NeverRecords, NothingIsTaken}
use Rattle.worker_pair.specs.Takes.{FilesStand}

-- The butler serves the session apart from the process: all that is so once their ends have met, but that they have.
pub record ServesApart {V : Type 0} (media : MediaOutside V) (at : At) (e : Ending V) : Type 0 where
  -- the newest edition is one of the session
  pub edition_of : IsEditionOf at.begun.session e.edition
  -- the edits that the butler entered last are the first of its edits
  pub served_of : IsPrefix at.served e.edition.edits
  pub serving : IsServing at.begun.session at.served e.butler
  -- the ends are those of the same rings
  pub others : AreOtherEnds e.ends e.butler.ends
  -- where nothing is to be recorded, no edition has recorded and nothing was captured
  pub never : at.begun.records ≡ false → NeverRecords at.begun.session e.edition.edits
  pub no_take : at.begun.records ≡ false → NothingIsTaken e.ends.takes.items
  -- of the files only takes have changed, and all that was sent is true to those that stood at first
  pub files : FilesStand media at.begun e.butler
  pub true_to : media.tells → IsTrueTo at.begun.files at.begun.session at.served e.butler
