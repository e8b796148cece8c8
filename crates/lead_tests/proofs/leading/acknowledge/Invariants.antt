use Rattle.std.proofs.Common.{◌≡◌, false}
use Rattle.lead_tests.proofs.leading.acknowledge.Given as goal

abbrev pub invariant-loop-cycle : goal.invariant-loop-cycle
invariant-loop-cycle l = (l.to.closed ≡ false) × (l.to.room ≡ 0)
