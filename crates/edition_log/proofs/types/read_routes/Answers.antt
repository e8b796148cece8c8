use Rattle.std.proofs.Common.{arith}
use Rattle.std.proofs.lemmas.List.Elements.{All-from_all_within, AllWithin-more, AllWithin-upto, at_read}
use Rattle.engine_model.specs.MayMake.{HasQuietGains}
use Rattle.session_model.specs.declared.route.Route.{Route}
use Rattle.edition_log.proofs.types.read_routes.Goals as goal

abbrev IsRead : Route → Type 0
IsRead x = HasQuietGains x

pub loop-route-preserved : goal.loop-route-preserved
loop-route-preserved c = let l = c.loop-route in AllWithin-more IsRead c.args.routes.now 0 l.route-index l.invariant
    (at_read c.args.routes.now IsRead l.route-index c.route-item.result c.loop-route-test.true c.route-item.is c.read_route.ensures)

pub returns : goal.returns
returns c = let l = c.loop-route in All-from_all_within IsRead c.args.routes.now (AllWithin-upto IsRead c.args.routes.now 0 l.route-index _ (omega (arith, c.loop-route-test.false)) l.invariant)
