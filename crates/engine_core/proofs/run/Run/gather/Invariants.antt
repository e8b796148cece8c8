use Rattle.std.specs.Prelude.{true}
use Rattle.worker_pair.specs.Runs.{at_now}
use Rattle.engine_core.proofs.run.Run.gather.Given as goal

abbrev pub ghost-enter : goal.ghost-enter
ghost-enter g a = g.on

abbrev pub ghost-look : goal.ghost-look
ghost-look g a = at_now g.on.begun true a.self.now
