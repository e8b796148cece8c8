use Rattle.std.proofs.Common.{◌≡◌, ℕ, ◌^◌, ◌<◌, get_or}
use Rattle.sound_model.specs.Lanes.{lane_value}
use Rattle.ses_units.specs.Point.{points_of}
use Rattle.ramp_fixed.specs.Pieces.{Stands}
use Rattle.ramp_fixed.proofs.lanes.walk_along.Given as goal

-- the gains so far, and a walk that stands in the lane
abbrev pub invariant-loop-i : goal.invariant-loop-i
invariant-loop-i l = record {
  stands : Stands l.fader (points_of l.points) l.walk l.walk.place;
  near : l.walk.place < 2 ^ 41;
  written : (k : ℕ) → k < l.i → get_or l.out k 0 ≡ lane_value l.fader (points_of l.points) (get_or l.places k 0);
}
