use Rattle.take_tests.proofs.bench.TakeBench.finish.Given as goal

abbrev pub ghost-close : goal.ghost-close
ghost-close g a = a.self.now
