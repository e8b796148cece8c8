use Rattle.ramp_fixed.proofs.EvenLanes.{FlatSoFar}
use Rattle.ramp_fixed.proofs.even.are_flat.Given as goal

-- the lines so far are flat
abbrev pub invariant-loop-i : goal.invariant-loop-i
invariant-loop-i l = FlatSoFar l.points l.from l.i
