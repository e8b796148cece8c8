use Rattle.std.proofs.Common.{◌≡◌, ◌∙◌, ap, sym, arith, length}
use Rattle.session_model.specs.Views.{routes_of}
use Rattle.route_graph.proofs.OrderLaws as laws
use Rattle.route_graph.proofs.CycleLaws.{none_is_found_without_cycle}
use Rattle.route_graph.proofs.GraphLaws.{as_many}
use Rattle.route_graph.proofs.ordering.order.Goals as goal

pub returns-then-as_slice-len-clause-order : goal.returns-then-as_slice-len-clause-order
returns-then-as_slice-len-clause-order c = let routes = routes_of c.args.s.now in let places = c.peeled-places.result in
    let long : length places ≡ length routes = omega (arith, ap length c.as_slice.ensures.places, c.if-as_slice-len.true, c.len.ensures.len, as_many c.args.s.now) in
    laws.listed_order routes places c.listed.result (laws.order_of routes places c.peeled-places.ensures long) c.listed.ensures.order

pub returns-then-as_slice-len-clause-cycle : goal.returns-then-as_slice-len-clause-cycle
returns-then-as_slice-len-clause-cycle c = let routes = routes_of c.args.s.now in let places = c.peeled-places.result in
    let long : length places ≡ length routes = omega (arith, ap length c.as_slice.ensures.places, c.if-as_slice-len.true, c.len.ensures.len, as_many c.args.s.now) in
    laws.names_none c.listed.result ((none_is_found_without_cycle routes).1 (laws.no_cycle routes places (laws.order_of routes places c.peeled-places.ensures long)))
    c.listed.ensures.refusal

pub unreachable-requires : goal.unreachable-requires
unreachable-requires c = let routes = routes_of c.args.s.now in let places = c.peeled-places.result in
    let long = laws.whole routes places c.peeled-places.ensures ((none_is_found_without_cycle routes).0 (sym c.first_cycle.ensures ∙ c.in-None.is)) in
    c.if-as_slice-len.false (omega (arith, ap length c.as_slice.ensures.places, c.len.ensures.len, as_many c.args.s.now))
