-- What the process does in a pair: each of its calls, and a meeting of the ends after it.
use Rattle.std.specs.Prelude.{◌≡◌, true, false, Result, OnOk, OnErr}
use Rattle.ses_io.specs.Outside.{MediaOutside, SourceOutside, SinkOutside}
use Rattle.process_cycle.specs.declared.fault.CycleFault.{CycleFault}
use Rattle.process_cycle.specs.Cycles.{MakesEntry, CycleReads, CycleWrites, HasStopped, next_bytes}
use Rattle.process_ends.specs.Ends.{EndsMeet}
use Rattle.process_cycle.specs.Looked.{HasLooked, Keeps, LooksAtAll}
use Rattle.process_cycle.specs.ProcessState.{ProcessState}
use Rattle.worker_pair.specs.declared.pair.Pair.{Pair}
use Rattle.worker_pair.specs.Begun.{At, playing_at}
use Rattle.worker_pair.specs.Runs.{Runs}

module _ {V I W : Type 0} where
  -- only what the master was given changes
  abbrev pub OnlyTheMaster : Pair V I W → Pair V I W → Type 0
  OnlyTheMaster old new = new ≡ record old { process = record old.process { master = record old.process.master { sink = new.process.master.sink } } }

  -- the ends met, and nothing else was done to butler and process
  pub record MeetsAfter (old : Pair V I W) (process : ProcessState I W) (new : Pair V I W) : Type 0 where
    pub ends : EndsMeet process.ends old.butler.ends new.process.ends new.butler.ends
    pub butler : new.butler ≡ record old.butler { ends = new.butler.ends }
    pub process_is : new.process ≡ record process { ends = new.process.ends }

  -- **A look of the process in its edition**, and a meeting after it.
  pub record Looks (old new : Pair V I W) : Type 0 where
    -- the process before the ends met
    pub process : ProcessState I W
    pub looks : LooksAtAll old.playing old.process process
    pub keeps : Keeps old.process process
    pub met : MeetsAfter old process new
    pub same : new ≡ record old { butler = new.butler; process = new.process }

  -- A cycle may be made: one is open, and the process has looked at each track in its edition.
  pub record MayCycle (media : MediaOutside V) (inputs : SourceOutside I) (sinks : SinkOutside W) (at : At) (p : Pair V I W) : Type 0 where
    pub runs : Runs media inputs sinks at p
    pub in_cycle : p.in_cycle ≡ true
    pub given : at.played ≡ p.playing.edits
    pub looked : HasLooked (playing_at at) p.process

  -- **A cycle of the process in its edition**, and a meeting after it: at Ok its entry is made; after a fault none is, and nothing was captured.
  pub record Cycles (inputs : SourceOutside I) (sinks : SinkOutside W) (at : At) (old : Pair V I W) (answer : Result (Unit {0}) CycleFault) (new : Pair V I W) : Type 0 where
    -- the process before the ends met
    pub process : ProcessState I W
    pub made : OnOk answer (MakesEntry at.begun.session old.playing old.process process)
    pub reads : CycleReads inputs (playing_at at) old.process answer process
    pub writes : CycleWrites sinks (next_bytes at.begun.session old.playing old.process) old.process answer process
    pub fault : OnErr answer (HasStopped old.process process)
    pub met : MeetsAfter old process new
    pub same : new ≡ record old { butler = new.butler; process = new.process; in_cycle = false }
