use Rattle.heard_blocks.proofs.lists.HeardLists.bring.Given as goal

abbrev pub ghost-change : goal.ghost-change
ghost-change g a = g.s
