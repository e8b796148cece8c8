use Rattle.std.proofs.Common.{ap}
use Rattle.control_desk.specs.State.{script_of}
use Rattle.control_desk.proofs.TakingLemmas.{took_next, took_none}
use Rattle.control_desk.proofs.control.Control.line.Goals as goal

pub returns-in-Absent-clause-line : goal.returns-in-Absent-clause-line
returns-in-Absent-clause-line g c = took_next g.C.Source.outside _ c.args.self.now c.next.new.self c.next.result c.self.view_is (ap script_of c.in-Absent.is)
    c.read_can_be_said.ensures c.waits_are_few.ensures c.next.ensures.line c.next.ensures.cuts c.next.ensures.cause

pub returns-in-Absent-clause-fault : goal.returns-in-Absent-clause-fault
returns-in-Absent-clause-fault g c = took_none g.C.Source.outside _ c.args.self.now c.next.new.self c.next.result c.self.view_is (ap script_of c.in-Absent.is)
    c.next.ensures.cut c.next.ensures.cause
