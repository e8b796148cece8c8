use Rattle.butler_tests.proofs.steps.is_idle.Given as goal

abbrev pub ghost-turn : goal.ghost-turn
ghost-turn g a = a.self.now
