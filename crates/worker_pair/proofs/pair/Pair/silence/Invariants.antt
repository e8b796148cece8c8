use Rattle.worker_pair.proofs.pair.Pair.silence.Given as goal

abbrev pub ghost-silence : goal.ghost-silence
ghost-silence g a = g.at.begun.session
