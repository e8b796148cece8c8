-- The lane has the point, and the route that is written back is the one that stood there without it.
use Rattle.std.proofs.Common.{get_or, ap}
use Rattle.std.proofs.lemmas.Result.{IfOk-at_ok}
use Rattle.ses_units.specs.Lane.{without_point}
use Rattle.session_model.specs.declared.route.Route.{Route}
use Rattle.session_change.proofs.PlaceLemmas.{route_written, stands_at}
use Rattle.session_change.proofs.LaneLemmas.{has_it}
use Rattle.session_change.proofs.lanes.unset_point.Goals as goal

pub unwrap-requires : goal.unwrap-requires
unwrap-requires c =
    let here = stands_at c.args.s.now.routes.items c.as_mut_slice.result.now c.args.route c.index-as_mut_slice-route.result c.as_mut_slice.ensures.items c.requires.route in
    has_it c.unset.result c.args.s.now c.args.route c.args.at _ here c.requires.stands c.unset.ensures.absent.0

pub returns : goal.returns
returns c =
    let q : Route = get_or c.as_mut_slice.result.now c.args.route c.index-as_mut_slice-route.result in
    route_written (λ x. record x { lane = without_point x.lane c.args.at }) c.args.s.now c.as_mut_slice.result.now c.args.route c.index-as_mut_slice-route.result _
    c.as_mut_slice.ensures.items c.requires.route (ap (λ l. record q { lane = l }) (IfOk-at_ok _ c.unwrap.ensures c.unset.ensures.points))
