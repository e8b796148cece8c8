use Rattle.process_tests.proofs.steps.begins.Given as goal

abbrev pub ghost-begin : goal.ghost-begin
ghost-begin g a = a.self.now
