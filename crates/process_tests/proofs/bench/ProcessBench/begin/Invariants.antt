use Rattle.process_tests.proofs.bench.ProcessBench.begin.Given as goal

abbrev pub ghost-begin : goal.ghost-begin
ghost-begin g a = g.at
