use Rattle.edit_resolve.proofs.StandingLemmas.{other_points_is}
use Rattle.edit_resolve.proofs.standing.other_points.Goals as goal

pub returns : goal.returns
returns c = other_points_is c.args.s.now c.args.of c.args.place _ c.route.result.now c.points.result.now c.route.ensures c.points.ensures.points c.points_elsewhere.ensures
