-- The route that is written back is the one that stood there without the send.
use Rattle.std.proofs.Common.{get_or, ap}
use Rattle.session_model.specs.declared.route.Route.{Route}
use Rattle.engine_model.specs.Changes.{without_send, sending}
use Rattle.session_change.proofs.PlaceLemmas.{route_written}
use Rattle.session_change.proofs.links.unset_send.Goals as goal

pub returns : goal.returns
returns c =
    let q : Route = get_or c.as_mut_slice.result.now c.args.route c.index-as_mut_slice-route.result in
    route_written (sending (without_send c.args.to)) c.args.s.now c.as_mut_slice.result.now c.args.route c.index-as_mut_slice-route.result _
    c.as_mut_slice.ensures.items c.requires (ap (λ l. record q { sends = l }) c.take_send.ensures)
