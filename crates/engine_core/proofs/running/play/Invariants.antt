use Rattle.engine_core.proofs.running.play.Given as goal

abbrev pub ghost-begin : goal.ghost-begin
ghost-begin g a = g.on.opening

abbrev pub ghost-played : goal.ghost-played
ghost-played g a = g.on
