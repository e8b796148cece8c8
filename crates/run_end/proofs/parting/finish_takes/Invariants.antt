use Rattle.run_end.proofs.parting.finish_takes.Given as goal

abbrev pub ghost-finish : goal.ghost-finish
ghost-finish g a = g.run
