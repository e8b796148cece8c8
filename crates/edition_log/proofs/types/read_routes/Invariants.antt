use Rattle.std.specs.List.{AllWithin}
use Rattle.engine_model.specs.MayMake.{HasQuietGains}
use Rattle.edition_log.proofs.types.read_routes.Given as goal

abbrev pub invariant-loop-route : goal.invariant-loop-route
invariant-loop-route l = AllWithin HasQuietGains l.routes 0 l.route-index
