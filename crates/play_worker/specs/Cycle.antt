-- What one cycle of a process beside other workers does.
use Rattle.std.specs.Prelude.{ℕ, Result, OnOk, OnErr}
use Rattle.ses_io.specs.Outside.{SourceOutside, SinkOutside}
use Rattle.session_model.specs.Valid.{IsValid}
use Rattle.edition_log.specs.EditionState.{EditionState as Edition}
use Rattle.process_cycle.specs.declared.fault.CycleFault.{CycleFault}
use Rattle.process_cycle.specs.ProcessState.{Playing, ProcessState, entered}
use Rattle.process_cycle.specs.Looked.{Keeps}
use Rattle.master_blocks.specs.State.{IsMasterOf}
use Rattle.process_cycle.specs.Promised.{IsMastered}
use Rattle.process_cycle.specs.Cycles.{CycleReads, CycleWrites, HasStopped, MakesEntry, MayCycle, next_bytes}
use Rattle.play_worker.specs.Patient.{AllGoOn, LooksPatiently}

-- **A cycle in this edition**: the looks, and then the entry over what they found.
pub record PlaysCycle {I W : Type 0} (inputs : SourceOutside I) (sinks : SinkOutside W) (at : Playing) (patience : ℕ) (e : Edition) (old : ProcessState I W) (result : Result (Unit {0}) CycleFault)
    (new : ProcessState I W) : Type 0 where
  -- the process once it has looked: it may make a cycle
  pub looked : ProcessState I W
  pub may : MayCycle inputs (entered e.edits at) e looked
  pub valid : IsValid e.session
  pub mastered : IsMastered sinks (entered e.edits at) looked
  pub patient : LooksPatiently patience e old looked
  pub rings : AllGoOn old.ends.plays.items looked.ends.plays.items
  pub keeps : Keeps old looked
  -- its entry, what it read of the input and wrote to the master; after a fault all but these two is as it was
  pub made : OnOk result (MakesEntry at.session e looked new)
  pub reads : CycleReads inputs (entered e.edits at) looked result new
  pub writes : CycleWrites sinks (next_bytes at.session e looked) looked result new
  pub fault : OnErr result (HasStopped looked new)
  pub master_of : IsMasterOf at.session new.master
