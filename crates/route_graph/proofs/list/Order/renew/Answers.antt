use Rattle.std.proofs.Common.{◌∙◌, ap, sym, subst, arith, length, List, ℕ}
use Rattle.session_model.specs.Views.{routes_of}
use Rattle.route_graph.specs.Order.{IsOrder}
use Rattle.route_graph.proofs.OrderLaws as laws
use Rattle.route_graph.proofs.GraphLaws.{as_many}
use Rattle.route_graph.proofs.list.Order.renew.Goals as goal

pub copy_from_slice-requires : goal.copy_from_slice-requires
copy_from_slice-requires c = let routes = routes_of c.args.s.now in let places = c.peeled-places.result in
    let long = laws.whole routes places c.peeled-places.ensures c.requires.valid.no_cycle in
    omega (arith, ap length c.as_slice.ensures.places, ap length c.self.view_is, c.requires.long, as_many c.args.s.now)

pub returns : goal.returns
returns c = let routes = routes_of c.args.s.now in let places = c.peeled-places.result in
    let long = laws.whole routes places c.peeled-places.ensures c.requires.valid.no_cycle in
    let K : List ℕ → Type 0 = λ xs. IsOrder routes xs in
    subst K (sym (c.copy_from_slice.ensures.items ∙ c.as_slice.ensures.places)) (laws.order_of routes places c.peeled-places.ensures long)
