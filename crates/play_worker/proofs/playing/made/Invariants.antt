use Rattle.play_worker.proofs.playing.made.Given as goal

abbrev pub ghost-begin : goal.ghost-begin
ghost-begin g a = g.at
