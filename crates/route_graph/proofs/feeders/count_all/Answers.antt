use Rattle.std.proofs.Common.{◌∙◌, sym, arith, length, []}
use Rattle.route_graph.proofs.GraphLaws.{item_at, links_low, below_more}
use Rattle.route_graph.proofs.WaitLaws.{waiting-none}
use Rattle.route_graph.proofs.FeedLaws as laws
use Rattle.route_graph.proofs.feeders.count_all.Goals as goal

pub loop-route-init : goal.loop-route-init
loop-route-init c = record {
  counted = λ t h. c.clear.ensures t (omega (arith, c.clear.auto.counts)) ∙ sym (waiting-none 0 [] t);
  small = λ t h. omega (arith, c.clear.ensures t (omega (arith, c.clear.auto.counts)));
}

pub count_links-requires-clause-low : goal.count_links-requires-clause-low
count_links-requires-clause-low c = let s = c.args.s.now in let routes = c.as_slice-routes in let q = c.route-item.result in
    let it = item_at s routes.result.now c.loop-route.route-index q routes.ensures.items c.loop-route-test.true c.route-item.is in
    below_more (length s.routes.items) (length c.loop-route.counts) q (omega (arith, c.requires.long, c.loop-route.auto.counts)) (links_low s c.requires.formed c.loop-route.route-index q it)

pub count_links-requires-clause-few : goal.count_links-requires-clause-few
count_links-requires-clause-few c = let s = c.args.s.now in let routes = c.as_slice-routes in let q = c.route-item.result in
    let it = item_at s routes.result.now c.loop-route.route-index q routes.ensures.items c.loop-route-test.true c.route-item.is in
    (c.requires.formed.routes c.loop-route.route-index q it).few

pub loop-route-preserved : goal.loop-route-preserved
loop-route-preserved c = let s = c.args.s.now in let routes = c.as_slice-routes in let q = c.route-item.result in
    let it = item_at s routes.result.now c.loop-route.route-index q routes.ensures.items c.loop-route-test.true c.route-item.is in
    record {
      counted = λ t h. omega (arith, c.count_links.ensures t (omega arith), c.loop-route.invariant.counted t (omega arith), laws.counted_more s c.loop-route.route-index t q it);
      small = λ t h. omega (
        arith,
        c.count_links.ensures t (omega arith),
        c.loop-route.invariant.small t (omega arith),
        laws.few_links q t (c.requires.formed.routes c.loop-route.route-index q it).few,
      );
    }
