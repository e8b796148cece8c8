-- What each letter does to a run, and that it is the core machine's while nothing fails.
use Rattle.std.specs.Prelude.{◌≡◌, Bool, true, false, Result}
use Rattle.ses_io.specs.Outside.{MediaOutside, SourceOutside, SinkOutside}
use Rattle.session_model.specs.declared.session.Session.{Session}
use Rattle.machine_model.specs.Core.{Core}
use Rattle.machine_model.specs.Events.{EnterProcess, after, have_looked, step}
use Rattle.machine_model.specs.Letters.{butler_moves, is_idle, gather_moves, cycle_moves}
use Rattle.butler.specs.declared.turning.Turn.{Turn}
use Rattle.butler.specs.declared.faults.ButlerFault.{ButlerFault}
use Rattle.process_cycle.specs.declared.fault.CycleFault.{CycleFault}
use Rattle.worker_pair.specs.Tied.{IsTied, rings_of}
use Rattle.worker_pair.specs.Steps.{Enters, Turns, TurnsOnly, is_idle_answer}
use Rattle.worker_pair.specs.Plays.{Cycles, Looks}
use Rattle.engine_core.specs.declared.run.Run.{Run}
use Rattle.run_end.specs.Failures.{after_turn, after_cycle, has_stopped, nothing_failed}
use Rattle.run_end.specs.Started.{Started}
use Rattle.engine_core.specs.Now.{now_of}

module _ {V I W : Type 0} where
  -- ---- what it does

  -- B: a turn of the pair, and what failed of it.
  pub record TurnsOn (media : MediaOutside V) (on : Started V I W) (old : Run V I W) (idle : Bool) (new : Run V I W) : Type 0 where
    pub answer : Result Turn ButlerFault
    pub only : TurnsOnly old.pair new.pair
    pub turns : Turns media (now_of on old) (rings_of old.pair) answer (rings_of new.pair)
    pub failed : new.failed ≡ after_turn answer old.failed
    pub idle_is : idle ≡ is_idle_answer answer

  -- E: the process enters, unless it has stopped.
  pub record EntersOn (old new : Run V I W) : Type 0 where
    pub failed : new.failed ≡ old.failed
    pub stays : has_stopped old.failed ≡ true → new ≡ old
    pub enters : has_stopped old.failed ≡ false → Enters old.pair new.pair

  -- G: it enters, and where a cycle is open it looks.
  pub record GathersOn (old new : Run V I W) : Type 0 where
    pub entered : Run V I W
    pub enters : EntersOn old entered
    pub failed : new.failed ≡ old.failed
    pub stays : entered.pair.in_cycle ≡ false → new ≡ entered
    pub looks : entered.pair.in_cycle ≡ true → Looks entered.pair new.pair

  -- a cycle of the pair, and what failed of it
  pub record MakesCycle (inputs : SourceOutside I) (sinks : SinkOutside W) (on : Started V I W) (old new : Run V I W) : Type 0 where
    pub answer : Result (Unit {0}) CycleFault
    pub cycles : Cycles inputs sinks (now_of on old) old.pair answer new.pair
    pub failed : new.failed ≡ after_cycle answer old.failed

  -- P: it gathers, and where a cycle is open it makes it.
  pub record CyclesOn (inputs : SourceOutside I) (sinks : SinkOutside W) (on : Started V I W) (old new : Run V I W) : Type 0 where
    pub gathered : Run V I W
    pub gathers : GathersOn old gathered
    pub stays : gathered.pair.in_cycle ≡ false → new ≡ gathered
    pub cycles : gathered.pair.in_cycle ≡ true → MakesCycle inputs sinks on gathered new

  -- ---- that it is the core machine's

  abbrev pub TurnIsB : Session → Run V I W → Bool → Run V I W → Type 0
  TurnIsB s old idle new = (c : Core) → nothing_failed new.failed ≡ true → IsTied s c old.pair →
      IsTied s (after s old.pair.butler.cycles c (butler_moves s old.pair.butler.cycles c)) new.pair × (idle ≡ is_idle s old.pair.butler.cycles c)

  abbrev pub EnteringIsE : Session → Run V I W → Run V I W → Type 0
  EnteringIsE s old new = (c : Core) → nothing_failed new.failed ≡ true → IsTied s c old.pair → IsTied s (step s old.pair.butler.cycles c EnterProcess) new.pair

  -- where a cycle is open then, each track's look-up is over
  abbrev pub GatheringIsG : Session → Run V I W → Run V I W → Type 0
  GatheringIsG s old new = (c : Core) → nothing_failed new.failed ≡ true → IsTied s c old.pair → let d = after s old.pair.butler.cycles c (gather_moves s old.pair.butler.cycles c) in
      IsTied s d new.pair × (d.in_cycle ≡ true → have_looked s d ≡ true)

  abbrev pub CycleIsP : Session → Run V I W → Run V I W → Type 0
  CycleIsP s old new = (c : Core) → nothing_failed new.failed ≡ true → IsTied s c old.pair → IsTied s (after s old.pair.butler.cycles c (cycle_moves s old.pair.butler.cycles c)) new.pair
