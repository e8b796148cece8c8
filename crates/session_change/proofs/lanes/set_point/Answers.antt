-- The lane has room, and the route that is written back is the one that stood there with the point.
use Rattle.std.proofs.Common.{get_or, ap}
use Rattle.std.proofs.lemmas.Result.{IfOk-at_ok}
use Rattle.ses_units.specs.Lane.{with_point}
use Rattle.ses_units.specs.Point.{point_of}
use Rattle.session_model.specs.declared.route.Route.{Route}
use Rattle.session_change.proofs.PlaceLemmas.{route_written, stands_at}
use Rattle.session_change.proofs.LaneLemmas.{has_room}
use Rattle.session_change.proofs.lanes.set_point.Goals as goal

pub unwrap-requires : goal.unwrap-requires
unwrap-requires c =
    let here = stands_at c.args.s.now.routes.items c.as_mut_slice.result.now c.args.route c.index-as_mut_slice-route.result c.as_mut_slice.ensures.items c.requires.route in
    has_room c.set.result c.args.s.now c.args.route c.args.p.at _ here c.requires.room c.set.ensures.full.0

pub returns : goal.returns
returns c =
    let q : Route = get_or c.as_mut_slice.result.now c.args.route c.index-as_mut_slice-route.result in
    route_written (λ x. record x { lane = with_point x.lane (point_of c.args.p) }) c.args.s.now c.as_mut_slice.result.now c.args.route c.index-as_mut_slice-route.result _
    c.as_mut_slice.ensures.items c.requires.route (ap (λ l. record q { lane = l }) (IfOk-at_ok _ c.unwrap.ensures c.set.ensures.points))
