use Rattle.butler.proofs.butler.Butler.flush.Given as goal

abbrev pub ghost-drain : goal.ghost-drain
ghost-drain g a = g.run
