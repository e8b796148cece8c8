use Rattle.play_worker.proofs.worker.one.Given as goal

abbrev pub ghost-awaited : goal.ghost-awaited
ghost-awaited g a = g.at

abbrev pub ghost-in_edition : goal.ghost-in_edition
ghost-in_edition g a = g.at
