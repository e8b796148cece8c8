use Rattle.heard_blocks.proofs.blocks.HeardBlocks.head.Given as goal

abbrev pub ghost-head : goal.ghost-head
ghost-head g a = g.s
