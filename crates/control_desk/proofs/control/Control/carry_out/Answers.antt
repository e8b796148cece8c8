use Rattle.std.proofs.Common.{◌≡◌, ◌∙◌, ap, arith, Ok}
use Rattle.engine_model.specs.Lines.{Says}
use Rattle.engine_model.specs.Plain.{Wait}
use Rattle.edit_script.specs.Reading.{line_of}
use Rattle.edit_script.specs.declared.command.Command.{Command}
use Rattle.control_desk.proofs.control.Control.carry_out.Goals as goal

pub overflow_add-seen : goal.overflow_add-seen
overflow_add-seen g c = let e : line_of c.args.said ≡ Says (Wait c.in-Ok-Wait.n) = ap line_of c.in-Ok-Wait.is ∙ ap (λ (x : Command). line_of (Ok x)) c.in-Ok-Wait.field-0-is in
    omega (arith, c.requires.few c.in-Ok-Wait.n e)
