use Rattle.worker_pair.proofs.beginning.new_workers.Given as goal

abbrev pub ghost-new : goal.ghost-new
ghost-new g a = g.s
