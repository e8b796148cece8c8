use Rattle.route_mix.specs.Desks.{IsDeskOf}
use Rattle.sound_tests.proofs.desks.are_wanted.Given as goal

-- it is still a desk of the session
abbrev pub invariant-loop-k : goal.invariant-loop-k
invariant-loop-k l = IsDeskOf l.e.session l.desk
