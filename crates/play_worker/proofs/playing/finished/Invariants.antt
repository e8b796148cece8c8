use Rattle.play_worker.proofs.playing.finished.Given as goal

abbrev pub ghost-silence : goal.ghost-silence
ghost-silence g a = g.at.session
