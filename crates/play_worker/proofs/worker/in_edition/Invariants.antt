use Rattle.play_worker.proofs.worker.in_edition.Given as goal

abbrev pub ghost-play_cycle : goal.ghost-play_cycle
ghost-play_cycle g a = g.at
