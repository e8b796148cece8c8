use Rattle.take_tests.proofs.bench.TakeBench.pass.Given as goal

abbrev pub ghost-block : goal.ghost-block
ghost-block g a = a.self.now
