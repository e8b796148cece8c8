use Rattle.std.proofs.Common.{◌≡◌, ◌-◌, ◌<◌, ◌∙◌, length, get_or, ap, subst, arith, rules, Some, FitsSigned, w32, w64}
use Rattle.std.specs.Prelude.{pos, slice_get}
use Rattle.std.proofs.lemmas.Int.{to_z-of_z}
use Rattle.sound_model.specs.Numbers.{clip}
use Rattle.sound_model.specs.Routes.{any_solo, post}
use Rattle.session_model.specs.Views.{route_of, routes_of}
use Rattle.route_graph.proofs.GraphLaws.{item_at}
use Rattle.engine_laws.proofs.WideLemmas.{channels_seen}
use Rattle.offline_render.specs.Walk.{AreFed}
use Rattle.offline_render.proofs.WalkLemmas.{seen_at, none_fed, master_few, master_is}
use Rattle.offline_render.proofs.walk.master.Goals as goal

pub walk-requires-clause-side : goal.walk-requires-clause-side
walk-requires-clause-side c = master_few c.args.s.now c.requires.valid.formed c.args.c c.requires.channel

pub walk-requires-clause-fed : goal.walk-requires-clause-fed
walk-requires-clause-fed c = none_fed c.args.s.now c.args.tracks.now c.args.place c.args.c c.requires.valid.formed.limits.routes

pub returns : goal.returns
returns c = let s = c.args.s.now in let q = c.index-as_slice-last.result in let sums = c.walk.new.sums in let tracks = c.args.tracks.now in
    let at : c.len-last.result - 1 ≡ length s.routes.items - 1 = ap (λ n. n - 1) c.len-last.ensures.len in
    let read : slice_get s.routes.items (c.len-last.result - 1) ≡ Some q =
    item_at s c.as_slice.result.now (c.len-last.result - 1) q c.as_slice.ensures.items (omega (arith, ap length c.as_slice.ensures.items, c.len-last.ensures.len, c.requires.valid.formed.limits.master)) c.index-as_slice-last.is in
    let there : slice_get s.routes.items (length s.routes.items - 1) ≡ Some q = subst (λ n. slice_get s.routes.items n ≡ Some q) at read in
    let wide = channels_seen s (length s.routes.items - 1) (route_of s.tracks.items q) (seen_at s (length s.routes.items - 1) q there) in
    let behind : FitsSigned w32 c.tapped.result.behind = search rules in
    let clipped : FitsSigned w32 c.clip.result = search rules in
    let whole : FitsSigned w64 (get_or sums (c.len-last.result - 1) (pos 0)) = search rules in
    let sum : c.clip.result ≡ clip (get_or sums (c.len-last.result - 1) (pos 0)) = simp to_z-of_z at c.clip.ensures in
    let out : c.tapped.result.behind ≡ post c.any_solo.result (route_of s.tracks.items q) c.args.place c.clip.result = simp to_z-of_z at c.tapped.ensures.behind in
    to_z-of_z w32 c.tapped.result.behind behind ∙ out
    ∙ ap (λ b. post b (route_of s.tracks.items q) c.args.place c.clip.result) c.any_solo.ensures
    ∙ ap (post (any_solo (routes_of s)) (route_of s.tracks.items q) c.args.place) (sum ∙ ap (λ n. clip (get_or sums n (pos 0))) at)
    ∙ master_is s c.requires.valid c.args.order.now tracks c.args.place c.args.c c.order_is_whole.ensures c.requires.order q sums there
    (subst (λ n. c.args.c < n) wide c.requires.channel)
    (subst (λ done. AreFed s tracks c.args.place c.args.c done sums) c.routes.ensures c.walk.ensures)
