use Rattle.std.proofs.Common.{◌≡◌, length}
use Rattle.cycle_grants.proofs.making.husks.Given as goal

abbrev pub invariant-loop-made : goal.invariant-loop-made
invariant-loop-made l = length l.husks.items ≡ l._made
