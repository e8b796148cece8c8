use Rattle.process_tests.proofs.steps.looks.Given as goal

abbrev pub ghost-look : goal.ghost-look
ghost-look g a = a.self.now
