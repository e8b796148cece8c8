use Rattle.std.proofs.Common.{rules, ◌≡◌, ◌∙◌, ap, sym, arith, length, Some}
use Rattle.std.specs.Prelude.{slice_get}
use Rattle.route_graph.proofs.GraphLaws.{item_at, links_low, below_more}
use Rattle.route_graph.proofs.PeelLaws as laws
use Rattle.route_graph.proofs.ReachLaws.{past}
use Rattle.route_graph.proofs.feeders.peeled.Goals as goal

pub loop-turn-init : goal.loop-turn-init
loop-turn-init c = laws.begun c.args.s.now c.count_all.new.counts c.unfed-places.result (search rules) c.unfed-places.ensures (λ t h. c.count_all.ensures t (omega (arith, c.count_all.auto.counts)))

pub bounds-routes-place : goal.bounds-routes-place
bounds-routes-place c =
    let at : slice_get c.loop-turn.places c.loop-turn.turn ≡ Some c.in-Some.place = sym c.get.ensures.place ∙ c.in-Some.is in
    let here = laws.here c.args.s.now c.loop-turn.turn c.in-Some.place c.loop-turn.counts c.loop-turn.places c.loop-turn.invariant at in
    omega (arith, ap length c.as_slice-routes.ensures.items)

pub release-requires-clause-low : goal.release-requires-clause-low
release-requires-clause-low c = let s = c.args.s.now in let routes = c.as_slice-routes in let q = c.index-routes-place.result in
    let at : slice_get c.loop-turn.places c.loop-turn.turn ≡ Some c.in-Some.place = sym c.get.ensures.place ∙ c.in-Some.is in
    let here = laws.here s c.loop-turn.turn c.in-Some.place c.loop-turn.counts c.loop-turn.places c.loop-turn.invariant at in
    let it = item_at s routes.result.now c.in-Some.place q routes.ensures.items (omega (arith, ap length routes.ensures.items)) c.index-routes-place.is in
    below_more (length s.routes.items) (length c.loop-turn.counts) q (omega (arith, c.loop-turn.invariant.long)) (links_low s c.requires c.in-Some.place q it)

pub release-requires-clause-linked : goal.release-requires-clause-linked
release-requires-clause-linked c = let s = c.args.s.now in let routes = c.as_slice-routes in let q = c.index-routes-place.result in
    let at : slice_get c.loop-turn.places c.loop-turn.turn ≡ Some c.in-Some.place = sym c.get.ensures.place ∙ c.in-Some.is in
    let here = laws.here s c.loop-turn.turn c.in-Some.place c.loop-turn.counts c.loop-turn.places c.loop-turn.invariant at in
    let it = item_at s routes.result.now c.in-Some.place q routes.ensures.items (omega (arith, ap length routes.ensures.items)) c.index-routes-place.is in
    laws.linked s c.loop-turn.turn c.in-Some.place q c.loop-turn.counts c.loop-turn.places c.loop-turn.invariant at it

pub returns-in-None : goal.returns-in-None
returns-in-None c = laws.ended c.args.s.now c.loop-turn.turn c.loop-turn.counts c.loop-turn.places c.loop-turn.invariant
    (past c.loop-turn.places c.loop-turn.turn (sym c.get.ensures.place ∙ c.in-None.is))

pub loop-turn-preserved : goal.loop-turn-preserved
loop-turn-preserved c = let s = c.args.s.now in let routes = c.as_slice-routes in let q = c.index-routes-place.result in
    let at : slice_get c.loop-turn.places c.loop-turn.turn ≡ Some c.in-Some.place = sym c.get.ensures.place ∙ c.in-Some.is in
    let here = laws.here s c.loop-turn.turn c.in-Some.place c.loop-turn.counts c.loop-turn.places c.loop-turn.invariant at in
    let it = item_at s routes.result.now c.in-Some.place q routes.ensures.items (omega (arith, ap length routes.ensures.items)) c.index-routes-place.is in
    laws.went_on s c.loop-turn.turn c.in-Some.place q c.loop-turn.counts c.release.new.counts c.loop-turn.places c.release.new.places c.loop-turn.invariant at it
    c.release.auto.counts c.release.ensures.settled c.release.ensures.starts c.release.ensures.counts

pub returns : goal.returns
returns c = laws.ended c.args.s.now c.loop-turn.turn c.loop-turn.counts c.loop-turn.places c.loop-turn.invariant
    (laws.at_end c.args.s.now c.loop-turn.turn c.loop-turn.counts c.loop-turn.places c.loop-turn.invariant
    (omega (arith, ap length c.as_slice-routes.ensures.items, c.loop-turn-test.false)))
