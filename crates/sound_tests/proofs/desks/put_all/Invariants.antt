use Rattle.route_mix.specs.Desks.{IsDeskOf}
use Rattle.sound_tests.proofs.desks.put_all.Given as goal

-- it is still a desk of the session
abbrev pub invariant-loop-t : goal.invariant-loop-t
invariant-loop-t l = IsDeskOf l.s l.desk
