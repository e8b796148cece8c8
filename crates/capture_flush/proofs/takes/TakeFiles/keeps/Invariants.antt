use Rattle.capture_flush.proofs.takes.TakeFiles.keeps.Given as goal

abbrev pub ghost-block_samples : goal.ghost-block_samples
ghost-block_samples g a = g.s

abbrev pub ghost-last : goal.ghost-last
ghost-last g a = g.s
