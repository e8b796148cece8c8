use Rattle.std.proofs.Common.{◌≡◌}
use Rattle.lead_tests.proofs.leading.are_granted.Given as goal

abbrev pub invariant-loop-cycles : goal.invariant-loop-cycles
invariant-loop-cycles l = l.from.room ≡ 0
