use Rattle.std.specs.Prelude.{true}
use Rattle.worker_pair.specs.Runs.{at_now}
use Rattle.engine_core.proofs.run.Run.turn.Given as goal

abbrev pub ghost-turn : goal.ghost-turn
ghost-turn g a = at_now g.on.begun true a.self.now
