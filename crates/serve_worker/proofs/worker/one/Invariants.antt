use Rattle.serve_worker.proofs.worker.one.Given as goal

abbrev pub ghost-in_edition : goal.ghost-in_edition
ghost-in_edition g a = g.on
