use Rattle.std.proofs.Common.{◌≡◌, length}
use Rattle.lead_tests.proofs.bench.acks_ring.Given as goal

abbrev pub invariant-loop-made : goal.invariant-loop-made
invariant-loop-made l = length l.husks.items ≡ l._made
