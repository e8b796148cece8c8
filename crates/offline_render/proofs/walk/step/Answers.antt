use Rattle.std.proofs.Common.{◌≡◌, ℕ, ◌<◌, ◌∙◌, length, get_or, ap, arith, rules, Some, FitsSigned, w32, w64}
use Rattle.std.specs.Prelude.{List, pos, slice_get}
use Rattle.std.proofs.lemmas.Int.{to_z-of_z}
use Rattle.sound_model.specs.Routes.{pre, post}
use Rattle.session_model.specs.declared.route.Route.{Route}
use Rattle.session_model.specs.declared.session.Session.{Session}
use Rattle.session_model.specs.Views.{route_of, routes_of, track_number}
use Rattle.route_graph.specs.Order.{IsOrder}
use Rattle.route_graph.proofs.GraphLaws.{as_many, links_low, item_at}
use Rattle.offline_render.specs.Links.{own}
use Rattle.offline_render.specs.Walk.{taken_in}
use Rattle.offline_render.proofs.WalkLemmas.{input_is, one_more, track_there, sums_near}
use Rattle.offline_render.proofs.walk.step.Goals as goal

-- the route that is taken
route_read : (s : Session) (order : List ℕ) (i : ℕ) (items : List Route) (q : Route) → IsOrder (routes_of s) order → i < length order → items ≡ s.routes.items →
    q ≡ get_or items (get_or order i 0) q → slice_get s.routes.items (get_or order i 0) ≡ Some q
route_read s order i items q is h same it = let low = is.places i 0 h in item_at s items (get_or order i 0) q same (omega (arith, low, as_many s, ap length same)) it

pub taken_in-input-requires-clause-tracks : goal.taken_in-input-requires-clause-tracks
taken_in-input-requires-clause-tracks c = let q = c.index-as_slice-r.result in let s = c.args.s.now in let r = get_or c.args.order.now c.args.i 0 in
    let there = route_read s c.args.order.now c.args.i c.as_slice.result.now q c.requires.order c.requires.there c.as_slice.ensures.items c.index-as_slice-r.is in
    track_there s c.args.tracks.now r q (c.requires.valid.formed.routes r q there).kind c.requires.tracks

pub feed-requires-clause-low : goal.feed-requires-clause-low
feed-requires-clause-low c = let q = c.index-as_slice-r.result in let s = c.args.s.now in
    links_low s c.requires.valid.formed (get_or c.args.order.now c.args.i 0) q
    (route_read s c.args.order.now c.args.i c.as_slice.result.now q c.requires.order c.requires.there c.as_slice.ensures.items c.index-as_slice-r.is)

pub feed-requires-clause-few : goal.feed-requires-clause-few
feed-requires-clause-few c = let q = c.index-as_slice-r.result in let s = c.args.s.now in let r = get_or c.args.order.now c.args.i 0 in
    (c.requires.valid.formed.routes r q (route_read s c.args.order.now c.args.i c.as_slice.result.now q c.requires.order c.requires.there c.as_slice.ensures.items c.index-as_slice-r.is)).few

pub feed-requires-clause-near : goal.feed-requires-clause-near
feed-requires-clause-near c = sums_near c.args.order.now c.args.i c.args.sums.now
    (omega (arith, c.requires.order.long, as_many c.args.s.now, c.requires.valid.formed.limits.routes)) (omega arith) c.requires.fed.near

pub returns : goal.returns
returns c = let q = c.index-as_slice-r.result in let s = c.args.s.now in let order = c.args.order.now in let i = c.args.i in let r : ℕ = get_or order i 0 in
    let tracks = c.args.tracks.now in let place = c.args.place in let side = c.args.c in let old = c.args.sums.now in let new = c.feed.new.sums in
    let there = route_read s order i c.as_slice.result.now q c.requires.order c.requires.there c.as_slice.ensures.items c.index-as_slice-r.is in
    let sum : FitsSigned w64 (get_or old r (pos 0)) = search rules in
    let fits : FitsSigned w32 c.taken_in-input.result = search rules in
    let taken : c.taken_in-input.result ≡ taken_in tracks (own q.channels side) (get_or old r (pos 0)) (track_number q.kind) = simp to_z-of_z at c.taken_in-input.ensures in
    let before : c.tapped.result.before ≡ pre c.args.solo (route_of s.tracks.items q) c.taken_in-input.result = simp to_z-of_z at c.tapped.ensures.before in
    let behind : c.tapped.result.behind ≡ post c.args.solo (route_of s.tracks.items q) place c.taken_in-input.result = simp to_z-of_z at c.tapped.ensures.behind in
    one_more s c.requires.valid order c.requires.order tracks place side c.only_links_feed.ensures c.along_goes_on.ensures (c.links_lead_wide.ensures s c.requires.valid.formed)
    i q c.taken_in-input.result c.tapped.result old new c.requires.there there
    (taken ∙ input_is s c.requires.valid order c.requires.order tracks place side c.order_mixes.ensures c.tracks_take_their_own.ensures i q old c.requires.there there c.requires.fed)
    (before ∙ ap (λ b. pre b (route_of s.tracks.items q) c.taken_in-input.result) c.requires.solo)
    (behind ∙ ap (λ b. post b (route_of s.tracks.items q) place c.taken_in-input.result) c.requires.solo)
    c.feed.ensures.sums c.feed.ensures.near (omega arith) c.requires.fed
