-- What has failed of a run so far, and how its counts of faults rose.
use Rattle.std.specs.Prelude.{◌≡◌, ℕ, ◌≤◌, Bool, true, false, ◌||◌, not, Result, Ok, Err}
use Rattle.ses_io.specs.Faults.{risen}
use Rattle.butler.specs.declared.turning.Turn.{Turn}
use Rattle.butler.specs.declared.faults.ButlerFault.{ButlerFault}
use Rattle.butler.specs.declared.faults.ButlerFault.TheVariants.{ReadFault, WriteFault}
use Rattle.process_cycle.specs.declared.fault.CycleFault.{CycleFault}
use Rattle.process_cycle.specs.declared.fault.CycleFault.TheVariants.{InputFault, MasterFault}
use Rattle.run_end.specs.declared.failures.Failures.{Failures}

-- after a fault of the input or of the master the process makes no cycle
abbrev pub has_stopped : Failures → Bool
has_stopped f = f.input || f.master

abbrev pub nothing_failed : Failures → Bool
nothing_failed f = not (f.input || f.master || f.read || f.write)

abbrev pub after_turn : Result Turn ButlerFault → Failures → Failures
after_turn (Ok turn) f = f
after_turn (Err ReadFault) f = record f { read = true }
after_turn (Err WriteFault) f = record f { write = true }

abbrev pub after_cycle : Result (Unit {0}) CycleFault → Failures → Failures
after_cycle (Ok u) f = f
after_cycle (Err InputFault) f = record f { input = true }
after_cycle (Err MasterFault) f = record f { master = true }

-- A count of faults that was once this, and whether it rose since; one that stands at its type's end counts as risen.
pub record IsFaultCount (before now : ℕ) (rose : Bool) : Type 0 where
  pub later : before ≤ now
  pub kept : rose ≡ false → now ≡ before
  pub raised : rose ≡ true → risen before ≤ now
