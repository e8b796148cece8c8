use Rattle.worker_pair.proofs.pair.Pair.enter.Given as goal

abbrev pub ghost-catch_up : goal.ghost-catch_up
ghost-catch_up g a = g.at.begun.session
