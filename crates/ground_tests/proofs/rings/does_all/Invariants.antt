use Rattle.std.proofs.Common.{◌≡◌, false}
use Rattle.ground_tests.proofs.rings.does_all.Given as goal

abbrev pub invariant-loop-step : goal.invariant-loop-step
invariant-loop-step l = (l.to.closed ≡ false) × (l.to.room ≡ 0) × (l.from.room ≡ 0)
