use Rattle.std.proofs.Common.{ap, subst}
use Rattle.process_cycle.specs.Looked.{LookAnswers}
use Rattle.process_cycle.proofs.PlayingLemmas.{answers_of}
use Rattle.process_cycle.proofs.process.Process.gather.Goals as goal

pub returns-clause-answer : goal.returns-clause-answer
returns-clause-answer g c = subst (λ rolling. LookAnswers rolling c.args.self.now c.found.result c.look.new.self) (ap (λ t. t.rolling) c.transport.ensures.transport)
    (answers_of c.transport.result.now.rolling c.args.e.now c.args.self.now c.look.new.self c.look.ensures.looks c.found.result c.found.ensures)
