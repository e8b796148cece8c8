use Rattle.thread_run.proofs.playing.run.Given as goal

abbrev pub ghost-played : goal.ghost-played
ghost-played g a = g.on
