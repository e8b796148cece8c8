-- What is so of take files, and of all other files, while a run plays.
use Rattle.std.specs.Prelude.{◌≡◌, true, false}
use Rattle.ses_io.specs.Outside.{MediaOutside}
use Rattle.capture_drain.specs.Files.{RunStart, OtherFilesStand}
use Rattle.butler.specs.ButlerState.{ButlerState}
use Rattle.butler.specs.Takes.{HoldsTakes, MayRecord}
use Rattle.worker_pair.specs.Begun.{Begun}

-- the session, and the files before the first block
abbrev pub run_of : Begun → RunStart
run_of begun = record { session = begun.session; held = begun.files }

-- What is so of the media's files.
pub record FilesStand {V : Type 0} (media : MediaOutside V) (begun : Begun) (b : ButlerState V) : Type 0 where
  -- only take files have changed,
  pub others : media.tells → OtherFilesStand begun.session begun.files (media.files b.media)
  -- and none at all where nothing is to be recorded
  pub same : begun.records ≡ false → media.files b.media ≡ begun.files
  -- so no write of them has failed
  pub unwritten : begun.records ≡ false → b.write_failed ≡ false
  -- where tracks may be recorded, takes are held as they came
  pub may_record : begun.records ≡ true → media.tells → MayRecord begun.session begun.files b.sources.opened
  pub takes : begun.records ≡ true → media.tells → HoldsTakes media (run_of begun) begun.write_faults b
