use Rattle.run_end.proofs.parting.part.Given as goal

abbrev pub ghost-finish_takes : goal.ghost-finish_takes
ghost-finish_takes g a = g.run
