use Rattle.process_cycle.proofs.putting.put_block.Given as goal

abbrev pub ghost-put : goal.ghost-put
ghost-put g a = g.s

abbrev pub ghost-quiet : goal.ghost-quiet
ghost-quiet g a = g.s
