use Rattle.process_tests.proofs.steps.ends.Given as goal

abbrev pub ghost-silence : goal.ghost-silence
ghost-silence g a = a.self.now
