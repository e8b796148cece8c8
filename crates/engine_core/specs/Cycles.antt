-- What a serial cycle does to a run, and that it is the core machine's.
use Rattle.std.specs.Prelude.{◌≡◌, ◌⊎◌, suc, true, false, length}
use Rattle.ses_io.specs.Outside.{MediaOutside}
use Rattle.session_model.specs.declared.session.Session.{Session}
use Rattle.engine_model.specs.Edits.{has_quit}
use Rattle.machine_model.specs.Core.{Core}
use Rattle.machine_model.specs.Rest.{Phase}
use Rattle.worker_pair.specs.declared.pair.Pair.{Pair}
use Rattle.worker_pair.specs.Tied.{IsTied}
use Rattle.engine_core.specs.declared.run.Run.{Run}
use Rattle.run_end.specs.Failures.{has_stopped, nothing_failed}
use Rattle.engine_core.specs.Letters.{TurnsOn}
use Rattle.run_end.specs.Started.{Started}
use Rattle.engine_core.specs.Now.{is_played_out}
use Rattle.engine_core.specs.Shows.{edits_of, made_of}
use Rattle.engine_core.specs.Leading.{LeadsOn, PlaysOn}

module _ {V I W : Type 0} where
  -- ---- what it does

  -- A cycle may be made: the newest edition hasn't quit, and a further one can run.
  pub record MayPlay (r : Run V I W) : Type 0 where
    pub unquit : has_quit (edits_of r) (length (edits_of r)) ≡ false
    pub can_run : is_played_out r ≡ false

  -- **A cycle is served**: no edit is published and no entry is made, and a cycle that is open stays open.
  pub record IsServed (old new : Run V I W) : Type 0 where
    pub edition : new.pair.edition ≡ old.pair.edition
    -- as many cycles are asked for
    pub asked : new.pair.butler.cycles ≡ old.pair.butler.cycles
    pub made : made_of new ≡ made_of old
    pub stays_open : old.pair.in_cycle ≡ true → new.pair.in_cycle ≡ true
    -- in the edition that it is in
    pub playing : old.pair.in_cycle ≡ true → new.pair.playing ≡ old.pair.playing
    -- what had failed has
    pub fine : nothing_failed new.failed ≡ true → nothing_failed old.failed ≡ true

  -- the butler has nothing left to do: its last turn was idle, whatever had failed before
  abbrev pub EndsIdle : MediaOutside V → Started V I W → Run V I W → Type 0
  EndsIdle media on new = (before : Run V I W) × TurnsOn media on before true new

  -- **An entry is made**, or the process has stopped.
  abbrev pub MakesAnEntry : Run V I W → Run V I W → Type 0
  MakesAnEntry old new = (length (made_of new) ≡ suc (length (made_of old))) ⊎ (has_stopped new.failed ≡ true)

  -- ---- that it is the core machine's

  -- the workers are where a state of the core machine is to which such steps lead
  pub record IsLedTo (s : Session) (leads : Core → Type 0) (p : Pair V I W) : Type 0 where
    pub core : Core
    pub tied : IsTied s core p
    pub led : leads core

  -- while nothing fails the machine goes the same way, from one phase of the rest to another
  abbrev pub GoesAsMachine : Session → Phase → Phase → Run V I W → Run V I W → Type 0
  GoesAsMachine s phase next old new = (c : Core) → nothing_failed new.failed ≡ true → IsTied s c old.pair →
      IsLedTo s (LeadsOn s old.pair.butler.cycles phase c next) new.pair

  -- from one place between two cycles to the next, where a cycle is next
  abbrev pub PlaysAsMachine : Session → Run V I W → Run V I W → Type 0
  PlaysAsMachine s old new = (c : Core) → nothing_failed new.failed ≡ true → IsTied s c old.pair → IsLedTo s (PlaysOn s old.pair.butler.cycles c) new.pair
