use Rattle.serve_worker.proofs.worker.in_edition.Given as goal

abbrev pub ghost-turn : goal.ghost-turn
ghost-turn g a = g.on.at
