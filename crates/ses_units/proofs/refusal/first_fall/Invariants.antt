use Rattle.std.proofs.Common.{◌≡◌, drop}
use Rattle.ses_units.specs.Point.{points_of}
use Rattle.ses_units.specs.Refusal.{fall_after, first_fall}
use Rattle.ses_units.proofs.refusal.first_fall.Given as goal

abbrev pub invariant-loop-i : goal.invariant-loop-i
invariant-loop-i l = fall_after l.before l.i (drop l.i (points_of l.others)) ≡ first_fall (points_of l.fn.points)
