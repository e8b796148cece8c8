use Rattle.std.specs.Prelude.{true}
use Rattle.worker_pair.specs.Runs.{at_now}
use Rattle.engine_core.proofs.run.Run.enter.Given as goal

abbrev pub ghost-enter : goal.ghost-enter
ghost-enter g a = at_now g.on.begun true a.self.now
