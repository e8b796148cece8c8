use Rattle.std.specs.Prelude.{true}
use Rattle.worker_pair.specs.Runs.{at_now}
use Rattle.engine_core.proofs.engine.Engine.carry.Given as goal

abbrev pub ghost-progress : goal.ghost-progress
ghost-progress g a = g.on

abbrev pub ghost-publish : goal.ghost-publish
ghost-publish g a = at_now g.on.begun true a.self.now
