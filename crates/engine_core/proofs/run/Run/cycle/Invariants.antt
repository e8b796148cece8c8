use Rattle.std.specs.Prelude.{true}
use Rattle.worker_pair.specs.Runs.{at_now}
use Rattle.engine_core.proofs.run.Run.cycle.Given as goal

abbrev pub ghost-gather : goal.ghost-gather
ghost-gather g a = g.on

abbrev pub ghost-cycle : goal.ghost-cycle
ghost-cycle g a = at_now g.on.begun true a.self.now
