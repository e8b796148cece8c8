use Rattle.process_tests.proofs.steps.cycles.Given as goal

abbrev pub ghost-cycle : goal.ghost-cycle
ghost-cycle g a = a.self.now
