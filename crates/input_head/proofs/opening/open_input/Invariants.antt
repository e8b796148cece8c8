use Rattle.input_head.proofs.opening.open_input.Given as goal

abbrev pub ghost-scanned : goal.ghost-scanned
ghost-scanned g a = g.I.Source.outside.left a.input.now
