use Rattle.process_tests.proofs.bench.ProcessBench.cycle.Given as goal

abbrev pub ghost-cycle : goal.ghost-cycle
ghost-cycle g a = g.at
