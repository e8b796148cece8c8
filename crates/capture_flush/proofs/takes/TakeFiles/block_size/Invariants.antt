use Rattle.capture_flush.proofs.takes.TakeFiles.block_size.Given as goal

abbrev pub ghost-block_samples : goal.ghost-block_samples
ghost-block_samples g a = g.s
