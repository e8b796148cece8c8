use Rattle.capture_tests.proofs.steps.turns.Given as goal

abbrev pub ghost-turn : goal.ghost-turn
ghost-turn g a = a.self.now
