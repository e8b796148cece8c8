use Rattle.heard_blocks.proofs.master.ByteMaster.rest.Given as goal

abbrev pub ghost-rest : goal.ghost-rest
ghost-rest g a = g.s

abbrev pub ghost-taken : goal.ghost-taken
ghost-taken g a = g.s
