use Rattle.std.proofs.Common.{rules, arith, length, ◌-◌}
use Rattle.route_graph.proofs.TestLaws.{apart_step}
use Rattle.session_tests.proofs.route_orders.formed.+names_apart.Goals as goal

pub returns-then-none_is : goal.returns-then-none_is
returns-then-none_is n c = λ h. apart_step c.args.routes.now c.first-item.result (length c.args.routes.now - 1) c.in-len1-up.len_at_least c.first-item.is (omega arith)
    (search rules) (c.names_apart.ensures h)
