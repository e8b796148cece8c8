use Rattle.std.specs.Prelude.{true}
use Rattle.worker_pair.specs.Runs.{at_now}
use Rattle.engine_core.proofs.finishing.finish.Given as goal

abbrev pub ghost-end : goal.ghost-end
ghost-end g a = g.on

abbrev pub ghost-close : goal.ghost-close
ghost-close g a = at_now g.on.begun true a.self

abbrev pub ghost-leave : goal.ghost-leave
ghost-leave g a = g.on
