use Rattle.mix_kernel.proofs.Ranges.{SpreadFrom}
use Rattle.mix_kernel.proofs.spreading.spread.Given as goal

-- the gains of the frames from i on are spread
abbrev pub invariant-loop-i : goal.invariant-loop-i
invariant-loop-i l = SpreadFrom l.fn.gains l.gains l.i

abbrev pub decreases-loop-i : goal.decreases-loop-i
decreases-loop-i l = l.i
