-- The pairs so far.
use Rattle.std.proofs.Common.{◌≡◌, map, take}
use Rattle.toml.specs.View.{view}
use Rattle.ses_units.specs.Point.{point_of}
use Rattle.session_text.specs.Tables.{pair}
use Rattle.session_text.proofs.lanes.pairs.Given as goal

abbrev pub invariant-loop-p : goal.invariant-loop-p
invariant-loop-p l = map view l.points.items ≡ map (λ p. pair (point_of p)) (take l.p-index l.p-items)
