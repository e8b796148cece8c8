use Rattle.input_blocks.proofs.blocks.InputBlocks.read.Given as goal

abbrev pub ghost-fill : goal.ghost-fill
ghost-fill g a = g.at.start
