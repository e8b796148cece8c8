use Rattle.machine_model.specs.Rest.{Between}
use Rattle.engine_core.specs.Going.{IsGoing}
use Rattle.engine_core.specs.Due.{in_rest}
use Rattle.engine_core.specs.Left.{steps_left}
use Rattle.engine_core.proofs.rest.play_on.Given as goal

abbrev pub invariant-playing : goal.invariant-playing
invariant-playing g l = IsGoing g.M.Media.outside g.I.Source.outside g.C.Source.outside g.W.Sink.outside g.O.Sink.outside (in_rest Between g.on) l.engine

abbrev pub decreases-playing : goal.decreases-playing
decreases-playing g l = steps_left g.on.opening.cycles l.engine

abbrev pub ghost-is_finished : goal.ghost-is_finished
ghost-is_finished g a = g.on.opening.started

abbrev pub ghost-is_line_due : goal.ghost-is_line_due
ghost-is_line_due g a = g.on.opening.started

abbrev pub ghost-carry : goal.ghost-carry
ghost-carry g a = g.on.opening.started

abbrev pub ghost-serial_cycle : goal.ghost-serial_cycle
ghost-serial_cycle g a = g.on.opening.started
