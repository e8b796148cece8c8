use Rattle.std.specs.Prelude.{Some}
use Rattle.control_lines.proofs.CutLemmas.{cuts_of}
use Rattle.control_lines.proofs.lines.ControlLines.next.Goals as goal

pub returns-in-Some-clause-cuts : goal.returns-in-Some-clause-cuts
returns-in-Some-clause-cuts g c = λ t. cuts_of g.C.Source.outside t _ c.waiting_line.new.self (Some c.in-Some.answer) c.in-Some.ensures.line
