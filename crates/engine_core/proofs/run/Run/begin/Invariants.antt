use Rattle.worker_pair.specs.Begun.{at_first}
use Rattle.engine_core.proofs.run.Run.begin.Given as goal

abbrev pub ghost-begin : goal.ghost-begin
ghost-begin g a = at_first g.on.begun
