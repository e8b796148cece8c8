use Rattle.control_desk.proofs.CallLemmas.{goes_by_due}
use Rattle.control_desk.proofs.control.Control.answer.Goals as goal

pub returns-clause-goes : goal.returns-clause-goes
returns-clause-goes g c = goes_by_due g.C.Source.outside g.O.Sink.outside c.args.seen.now c.args.self.now c.settle.new.self c.settle.ensures
