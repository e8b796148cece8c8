-- What a run on one thread says of its lines, beside what every run takes of them.
use Rattle.std.specs.Prelude.{◌≡◌, true, false, List, [], ◌++◌, map, reverse, None}
use Rattle.ses_io.specs.Outside.{SourceOutside, SinkOutside}
use Rattle.engine_model.specs.Lines.{Line}
use Rattle.engine_model.specs.Replies.{Reply}
use Rattle.serial_laws.specs.Truth.{AllHold}
use Rattle.serial_laws.specs.Paced.{IsPaced}
use Rattle.run_letters.specs.declared.event.Event.{Event}
use Rattle.run_letters.specs.Events.{letter_of}
use Rattle.run_world.specs.declared.finished.Finished.{Finished}
use Rattle.run_world.specs.declared.opened.Opened.{Opened}
use Rattle.run_end.specs.Failures.{has_stopped, nothing_failed}
use Rattle.run_end.specs.Finished.{run_end_of, failures_of, journal_of}
use Rattle.run_end.specs.Lines.{TakesItsLines}
use Rattle.engine_core.specs.Machine.{IsPlain, IsTheMachines}
use Rattle.engine_core.specs.Serially.{GoesSerially}

module _ {M I C W O : Type 0} where
  -- **What only a run on one thread says**, of these lines and replies.
  pub record IsOfOneThread (o : Opened M I C W O) (events : List Event) (lines left : List Line) (replies : List Reply) (f : Finished M I C W O) : Type 0 where
    -- each reply was true of the journal when it was given
    pub holds : AllHold true (reverse (journal_of f)) (reverse replies)
    -- where nothing of butler and process has failed it is the core machine's, and with no event the plain one
    pub machine : nothing_failed (failures_of f.faults) ≡ true → IsTheMachines o.edition.session o.cycles (lines ++ left) (map letter_of events) replies (run_end_of f)
    pub plainly : nothing_failed (failures_of f.faults) ≡ true → events ≡ [] → IsPlain o.edition.session o.cycles (lines ++ left) replies (run_end_of f)
    -- and with no event, whatever has failed, entries and replies are by the plain walk over the lines that were taken, no block of a take is
    -- lost but for a failed write, and each entry plays as the plain one but for a failed read
    pub paced : events ≡ [] → IsPaced o.edition.session o.cycles (has_stopped (failures_of f.faults)) [] [] lines (journal_of f) replies
    pub serially : events ≡ [] → GoesSerially o.edition.session f
    -- control took no acknowledgement and allowed nothing by a ring, and no call of a run that has begun wants memory
    pub none_taken : f.acks.received ≡ []
    pub ungranted : f.grants ≡ None
    pub memory : f.faults.memory ≡ false

  -- **A run on one thread goes by its lines.**
  pub record GoesByItsLines (source : SourceOutside C) (sink : SinkOutside O) (o : Opened M I C W O) (events : List Event) (f : Finished M I C W O) : Type 0 where
    -- the lines that were taken, and those that an accepted quit has left; and what was answered, the first reply first
    pub lines : List Line
    pub left : List Line
    pub replies : List Reply
    pub takes : TakesItsLines source sink o lines left replies f
    pub alone : IsOfOneThread o events lines left replies f
