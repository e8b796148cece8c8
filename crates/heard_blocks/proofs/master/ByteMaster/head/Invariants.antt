use Rattle.heard_blocks.proofs.master.ByteMaster.head.Given as goal

abbrev pub ghost-begin : goal.ghost-begin
ghost-begin g a = g.s

abbrev pub ghost-taken : goal.ghost-taken
ghost-taken g a = g.s
