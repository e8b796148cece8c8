-- The list of sends has room, and the route that is written back is the one that stood there with the send.
use Rattle.std.proofs.Common.{get_or, ap}
use Rattle.session_model.specs.declared.route.Route.{Route}
use Rattle.engine_model.specs.Changes.{with_send, sending}
use Rattle.session_change.proofs.PlaceLemmas.{route_written, stands_at}
use Rattle.session_change.proofs.SendLemmas.{send_fits}
use Rattle.session_change.proofs.links.set_send.Goals as goal

pub put_send-requires : goal.put_send-requires
put_send-requires c =
    let here = stands_at c.args.s.now.routes.items c.as_mut_slice.result.now c.args.route c.index-as_mut_slice-route.result c.as_mut_slice.ensures.items c.requires.route in
    send_fits c.args.s.now c.args.route c.args.link _ c.requires.valid.formed here c.requires.room

pub returns : goal.returns
returns c =
    let q : Route = get_or c.as_mut_slice.result.now c.args.route c.index-as_mut_slice-route.result in
    route_written (sending (with_send c.args.link)) c.args.s.now c.as_mut_slice.result.now c.args.route c.index-as_mut_slice-route.result _
    c.as_mut_slice.ensures.items c.requires.route (ap (λ l. record q { sends = l }) c.put_send.ensures)
