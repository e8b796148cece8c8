use Rattle.process_tests.proofs.bench.ProcessBench.look.Given as goal

abbrev pub ghost-gather : goal.ghost-gather
ghost-gather g a = g.at
