use Rattle.edit_resolve.proofs.StandingLemmas.{has_point_is}
use Rattle.edit_resolve.proofs.standing.has_point.Goals as goal

pub returns : goal.returns
returns c = has_point_is c.args.s.now c.args.of c.args.place _ c.route.result.now c.points.result.now c.route.ensures c.points.ensures.points c.has_point_at.ensures
