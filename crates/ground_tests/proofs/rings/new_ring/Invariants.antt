use Rattle.std.proofs.Common.{◌≡◌, length}
use Rattle.ground_tests.proofs.rings.new_ring.Given as goal

abbrev pub invariant-loop-made : goal.invariant-loop-made
invariant-loop-made l = length l.husks.items ≡ l.made
