use Rattle.std.proofs.Common.{length}
use Rattle.session_tests.proofs.route_orders.formed.+formed_from.Given as goal

abbrev pub decreases-formed_from : goal.decreases-formed_from
decreases-formed_from l = length l.routes.now
