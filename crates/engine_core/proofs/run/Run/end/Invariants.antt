use Rattle.std.specs.Prelude.{true}
use Rattle.worker_pair.specs.Runs.{at_now}
use Rattle.engine_core.proofs.run.Run.end.Given as goal

abbrev pub ghost-silence : goal.ghost-silence
ghost-silence g a = at_now g.on.begun true a.self.now
