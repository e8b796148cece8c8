use Rattle.std.proofs.Common.{◌≡◌}
use Rattle.ground_tests.proofs.rings.takes_all.Given as goal

abbrev pub invariant-loop-husk : goal.invariant-loop-husk
invariant-loop-husk l = l.from.room ≡ 0
