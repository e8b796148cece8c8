use Rattle.std.proofs.Common.{◌≡◌, ◌∙◌, ap, sym, rules}
use Rattle.std.specs.Prelude.{Bool, false}
use Rattle.cycle_journal.specs.declared.status.Status.{Status}
use Rattle.run_world.specs.declared.finished.Faults.{Faults}
use Rattle.session_play.specs.Ending.{status_at_end}
use Rattle.session_play.proofs.ending.status_at_end.Goals as goal

had_memory : (f : Faults) (r : Status) → f.memory ≡ false → r ≡ status_at_end (record f { memory = false }) → r ≡ status_at_end f
had_memory f r had is = is ∙ ap (λ (m : Bool). status_at_end (record f { memory = m })) (sym had)

pub returns : goal.returns
returns c = had_memory c.args.faults.now _ (search rules) (search rules)
