use Rattle.heard_blocks.proofs.blocks.HeardBlocks.hear.Given as goal

abbrev pub ghost-bring : goal.ghost-bring
ghost-bring g a = g.s

abbrev pub ghost-put : goal.ghost-put
ghost-put g a = g.s
