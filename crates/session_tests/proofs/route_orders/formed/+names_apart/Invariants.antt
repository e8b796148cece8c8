use Rattle.std.proofs.Common.{length}
use Rattle.session_tests.proofs.route_orders.formed.+names_apart.Given as goal

abbrev pub decreases-names_apart : goal.decreases-names_apart
decreases-names_apart l = length l.routes.now
