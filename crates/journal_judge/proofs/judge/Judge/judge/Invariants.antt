use Rattle.journal_judge.proofs.judge.Judge.judge.Given as goal

abbrev pub ghost-enter : goal.ghost-enter
ghost-enter g a = g.before
