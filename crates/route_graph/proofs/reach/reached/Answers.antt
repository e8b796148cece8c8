use Rattle.std.proofs.Common.{◌≡◌, ◌∙◌, ◌<◌, ◌||◌, ap, sym, arith, length, Some}
use Rattle.std.specs.Prelude.{slice_get}
use Rattle.sound_model.specs.Routes.{feeds}
use Rattle.route_graph.proofs.GraphLaws.{item_at}
use Rattle.route_graph.proofs.ReachLaws as laws
use Rattle.route_graph.specs.Places.{stands}
use Rattle.route_graph.specs.Walks.{plain}
use Rattle.route_graph.proofs.reach.reached.Goals as goal

pub spread-requires : goal.spread-requires
spread-requires c = let s = c.args.s.now in let routes = c.as_slice-routes in let q = c.index-routes-from.result in
    laws.low s c.requires.formed c.args.from q
    (item_at s routes.result.now c.args.from q routes.ensures.items (omega (arith, ap length routes.ensures.items, c.requires.here)) c.index-routes-from.is)

pub loop-turn-init : goal.loop-turn-init
loop-turn-init c = let s = c.args.s.now in let routes = c.as_slice-routes in let q = c.index-routes-from.result in
    laws.begun s c.args.from q c.spread.new.found
    (item_at s routes.result.now c.args.from q routes.ensures.items (omega (arith, ap length routes.ensures.items, c.requires.here)) c.index-routes-from.is)
    (c.spread.ensures.once c.new-found.ensures.once) (λ t. c.spread.ensures.stand t ∙ ap (λ xs. stands xs t || feeds (plain q) t) c.new-found.ensures.none)

pub bounds-routes-place : goal.bounds-routes-place
bounds-routes-place c =
    let at : slice_get c.loop-turn.found c.loop-turn.turn ≡ Some c.in-Some.place = sym c.get.ensures.place ∙ c.in-Some.is in
    let here : c.in-Some.place < length c.args.s.now.routes.items =
    laws.here c.args.s.now c.requires.formed c.args.from c.loop-turn.turn c.in-Some.place c.loop-turn.found c.loop-turn.invariant at in
    omega (arith, ap length c.as_slice-routes.ensures.items)

pub spread-requires-in-Some : goal.spread-requires-in-Some
spread-requires-in-Some c = let s = c.args.s.now in let routes = c.as_slice-routes in let q = c.index-routes-place.result in
    let at : slice_get c.loop-turn.found c.loop-turn.turn ≡ Some c.in-Some.place = sym c.get.ensures.place ∙ c.in-Some.is in
    let here : c.in-Some.place < length c.args.s.now.routes.items =
    laws.here c.args.s.now c.requires.formed c.args.from c.loop-turn.turn c.in-Some.place c.loop-turn.found c.loop-turn.invariant at in
    laws.low s c.requires.formed c.in-Some.place q
    (item_at s routes.result.now c.in-Some.place q routes.ensures.items (omega (arith, ap length routes.ensures.items)) c.index-routes-place.is)

pub loop-turn-preserved : goal.loop-turn-preserved
loop-turn-preserved c = let s = c.args.s.now in let routes = c.as_slice-routes in let q = c.index-routes-place.result in
    let at : slice_get c.loop-turn.found c.loop-turn.turn ≡ Some c.in-Some.place = sym c.get.ensures.place ∙ c.in-Some.is in
    let here : c.in-Some.place < length c.args.s.now.routes.items =
    laws.here c.args.s.now c.requires.formed c.args.from c.loop-turn.turn c.in-Some.place c.loop-turn.found c.loop-turn.invariant at in
    laws.went_on s c.args.from c.loop-turn.turn c.in-Some.place q c.loop-turn.found c.spread-in-Some.new.found c.loop-turn.invariant at
    (item_at s routes.result.now c.in-Some.place q routes.ensures.items (omega (arith, ap length routes.ensures.items)) c.index-routes-place.is)
    c.spread-in-Some.ensures.starts (c.spread-in-Some.ensures.once c.loop-turn.invariant.once) c.spread-in-Some.ensures.stand

pub returns-in-None : goal.returns-in-None
returns-in-None c = laws.found_all c.args.s.now c.args.from c.loop-turn.turn c.loop-turn.found c.loop-turn.invariant
    (laws.past c.loop-turn.found c.loop-turn.turn (sym c.get.ensures.place ∙ c.in-None.is))

pub returns : goal.returns
returns c = laws.found_all c.args.s.now c.args.from c.loop-turn.turn c.loop-turn.found c.loop-turn.invariant
    (laws.at_end c.args.s.now c.requires.formed c.args.from c.loop-turn.turn c.loop-turn.found c.loop-turn.invariant
    (omega (arith, ap length c.as_slice-routes.ensures.items, c.loop-turn-test.false)))
