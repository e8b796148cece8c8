use Rattle.std.proofs.Common.{sym, arith}
use Rattle.session_model.specs.Views.{routes_of}
use Rattle.route_graph.proofs.CycleLaws as laws
use Rattle.route_graph.proofs.GraphLaws.{as_many}
use Rattle.route_graph.proofs.ordering.first_cycle.Goals as goal

pub returns-then-leads : goal.returns-then-leads
returns-then-leads c = sym ((laws.first_on_cycle_is_found (routes_of c.args.s.now) c.loop-r.r).1
    (record { on_cycle = c.leads.ensures.0 c.if-leads.true; first = c.loop-r.invariant }))

pub returns : goal.returns
returns c = sym ((laws.none_is_found_without_cycle (routes_of c.args.s.now)).1
    (λ r h. let here = laws.in_range (routes_of c.args.s.now) r r h in
    c.loop-r.invariant r (omega (arith, here, as_many c.args.s.now, c.loop-r-test.false, c.len-r-end.ensures.len)) h))
