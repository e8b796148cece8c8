use Rattle.report_check.proofs.checker.Checker.piece.Given as goal

abbrev pub ghost-judge : goal.ghost-judge
ghost-judge g a = g.at

abbrev pub ghost-block : goal.ghost-block
ghost-block g a = record { session = g.at.session; entries = g.at.entries }
