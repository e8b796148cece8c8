use Rattle.journal_judge.proofs.judge.Judge.enter.Given as goal

abbrev pub ghost-advance : goal.ghost-advance
ghost-advance g a = g.before.session
