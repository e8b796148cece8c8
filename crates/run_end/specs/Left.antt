-- What is left of what a run had at its end, and how it came to that.
use Rattle.std.specs.Prelude.{◌≡◌, true}
use Rattle.ses_io.specs.Outside.{MediaOutside}
use Rattle.run_rings.specs.Rings.{joined_tracks}
use Rattle.worker_pair.specs.declared.ending.Ending.{Ending}
use Rattle.worker_pair.specs.declared.ending.Stopped.{Stopped}
use Rattle.run_end.specs.declared.failures.Failures.{Failures}
use Rattle.run_end.specs.declared.parting.RunEnd.{RunEnd}
use Rattle.run_end.specs.Failures.{IsFaultCount}
use Rattle.run_end.specs.LastTurns.{HasTurned}
use Rattle.run_end.specs.Started.{Started}

module _ {V I W : Type 0} where
  -- **What the last turns and the takes don't touch is handed on.**
  pub record IsLeftOver (ending : Ending V) (stopped : Stopped I W) (was : Failures) (e : RunEnd V I W) : Type 0 where
    pub input : e.input ≡ stopped.input
    pub master : e.master ≡ stopped.master
    pub journal : e.journal ≡ stopped.journal
    pub edits : e.edits.items ≡ ending.edition.edits
    -- nothing more is put into the ring to control, or taken from it
    pub sent : e.acks.sent ≡ ending.ends.to_control.sent
    pub received : e.acks.received ≡ stopped.acks.received
    pub ended : e.acks.ended ≡ stopped.acks.ended
    -- of faults only those of the media are noted, and what had failed has failed
    pub failed : e.failed ≡ record was { read = e.failed.read; write = e.failed.write }
    pub read_still : was.read ≡ true → e.failed.read ≡ true
    pub write_still : was.write ≡ true → e.failed.write ≡ true

  -- **Each count of faults of the media rose exactly where it is noted.**
  pub record MediaIsCounted (media : MediaOutside V) (on : Started V I W) (e : RunEnd V I W) : Type 0 where
    pub reads : IsFaultCount (media.read_faults on.media) (media.read_faults e.media) e.failed.read
    pub writes : IsFaultCount (media.write_faults on.media) (media.write_faults e.media) e.failed.write

  -- **The rings are those that the last turns left.**
  pub record IsLeftByTurns (media : MediaOutside V) (on : Started V I W) (ending : Ending V) (was : Failures) (e : RunEnd V I W) : Type 0 where
    -- butler and ends after the last turn, and what had failed by then
    pub last : Ending V
    pub noted : Failures
    pub turned : HasTurned media on.begun ending was last noted
    pub rings : e.rings.items ≡ joined_tracks last.ends last.butler.ends
    pub edits : e.edits.items ≡ last.edition.edits
    -- since then only a write may have failed
    pub failed : e.failed ≡ record noted { write = e.failed.write }
    pub write_still : noted.write ≡ true → e.failed.write ≡ true
