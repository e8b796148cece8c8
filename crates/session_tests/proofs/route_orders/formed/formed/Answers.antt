use Rattle.std.proofs.Common.{rules, arith}
use Rattle.route_graph.proofs.TestLaws.{form_of}
use Rattle.session_tests.proofs.route_orders.formed.formed.Goals as goal

pub returns-then-formed_from : goal.returns-then-formed_from
returns-then-formed_from c = (c.form_is_tested.ensures c.args.s).0
    (form_of c.args.s (search rules) (omega arith) (omega arith) (search rules) (search rules))
