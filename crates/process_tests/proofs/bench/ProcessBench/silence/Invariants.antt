use Rattle.process_tests.proofs.bench.ProcessBench.silence.Given as goal

abbrev pub ghost-silence : goal.ghost-silence
ghost-silence g a = g.at.session
