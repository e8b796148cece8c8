use Rattle.engine_core.proofs.beginning.begin.Given as goal

abbrev pub ghost-new : goal.ghost-new
ghost-new g a = g.on.started.begun

abbrev pub ghost-begin : goal.ghost-begin
ghost-begin g a = g.on.started
