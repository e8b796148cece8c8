-- The points so far.
use Rattle.std.proofs.Common.{◌≡◌, map, take, Some}
use Rattle.toml.specs.View.{view}
use Rattle.session_walk.specs.Arrays.{each}
use Rattle.session_walk.specs.Lane.{point_of}
use Rattle.session_walk.proofs.lane.each_point.Given as goal

abbrev pub invariant-loop-value : goal.invariant-loop-value
invariant-loop-value l = each point_of (map view (take l.value-index l.values)) ≡ Some l.points.items
