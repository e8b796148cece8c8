use Rattle.std.proofs.Common.{◌≤◌, get_or, sym, arith, subst}
use Rattle.std.proofs.lemmas.List.Elements.{All-from_get_or}
use Rattle.ses_units.specs.Point.{points_of}
use Rattle.ramp_fixed.proofs.LaneLaws.{lane_quiet, rise_by_pairs}
use Rattle.ramp_fixed.proofs.lanes.walk_along.Goals as goal

pub returns-clause-quiet : goal.returns-clause-quiet
returns-clause-quiet c =
    let points = points_of c.args.points.now in
    All-from_get_or (λ g. g ≤ 262144) c.loop-i.out 0
    (λ k h. subst (λ g. g ≤ 262144) (sym (c.loop-i.invariant.written k (omega arith)))
    (lane_quiet 262144 c.args.fader points (get_or c.args.places.now k 0) c.requires.fader c.requires.lane.quiet (rise_by_pairs points c.requires.lane.rising)))
