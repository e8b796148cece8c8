use Rattle.capture_flush.proofs.takes.TakeFiles.stated.Given as goal

abbrev pub ghost-block_size : goal.ghost-block_size
ghost-block_size g a = g.s

abbrev pub ghost-second_blocks : goal.ghost-second_blocks
ghost-second_blocks g a = g.s
