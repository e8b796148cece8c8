use Rattle.play_worker.proofs.looks.again.Given as goal

abbrev pub ghost-gather : goal.ghost-gather
ghost-gather g a = g.at
