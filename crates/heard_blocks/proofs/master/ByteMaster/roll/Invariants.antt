use Rattle.heard_blocks.proofs.master.ByteMaster.roll.Given as goal

abbrev pub ghost-roll : goal.ghost-roll
ghost-roll g a = g.heard

abbrev pub ghost-taken : goal.ghost-taken
ghost-taken g a = g.heard.session
