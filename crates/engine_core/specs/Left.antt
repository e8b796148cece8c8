-- How many steps of a rest are left at most: each cycle makes an entry or stops the process, and each line takes a byte at least.
use Rattle.std.specs.Prelude.{ℕ, ◌+◌, ◌-◌, if◌then◌else◌, List, length, Option, Some, None}
use Rattle.engine_model.specs.Lines.{Line}
use Rattle.control_lines.specs.Lines.{LinesState, allowance}
use Rattle.control_desk.specs.State.{ControlState}
use Rattle.control_desk.specs.Standing.{is_ended}
use Rattle.engine_core.specs.declared.run.Run.{Run}
use Rattle.run_end.specs.Failures.{has_stopped}
use Rattle.engine_core.specs.declared.engine.Engine.{Engine}
use Rattle.engine_core.specs.Shows.{made_of}

-- the lines that control may still take: one for each byte that may be read, or those of its script
abbrev pub lines_to_take : {C : Type 0} → LinesState C → Option (List Line) → ℕ
lines_to_take lines None = allowance lines
lines_to_take lines (Some script) = length script

-- and its end
abbrev pub control_left : {C O : Type 0} → ControlState C O → ℕ
control_left c = lines_to_take c.lines c.script + (if is_ended c.standing then 0 else 1)

-- the cycles that may still be made, and the end of the process
abbrev pub cycles_left : {V I W : Type 0} → ℕ → Run V I W → ℕ
cycles_left cycles r = (cycles - length (made_of r)) + (if has_stopped r.failed then 0 else 1)

abbrev pub steps_left : {V I C W O : Type 0} → ℕ → Engine V I C W O → ℕ
steps_left cycles e = cycles_left cycles e.run + control_left e.control
