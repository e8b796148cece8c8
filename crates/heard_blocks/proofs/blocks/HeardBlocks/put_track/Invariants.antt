use Rattle.heard_blocks.proofs.blocks.HeardBlocks.put_track.Given as goal

abbrev pub ghost-hear : goal.ghost-hear
ghost-hear g a = g.s

abbrev pub ghost-put : goal.ghost-put
ghost-put g a = g.s
