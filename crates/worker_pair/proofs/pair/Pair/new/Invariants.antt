use Rattle.worker_pair.proofs.pair.Pair.new.Given as goal

abbrev pub ghost-new_workers : goal.ghost-new_workers
ghost-new_workers g a = g.begun.session
