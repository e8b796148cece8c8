use Rattle.std.proofs.Common.{◌≡◌, false}
use Rattle.ground_tests.proofs.rings.threads.put_all.Given as goal

abbrev pub invariant-loop : goal.invariant-loop
invariant-loop g l = (l.to.closed ≡ false) × (l.to.room ≡ 0) × (l.to.ring ≡ l.initial.to.ring)
