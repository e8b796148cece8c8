use Rattle.thread_run.proofs.playing.played.Given as goal

abbrev pub ghost-finish : goal.ghost-finish
ghost-finish g a = g.on
