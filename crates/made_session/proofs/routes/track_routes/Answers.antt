-- One more route.
use Rattle.std.proofs.Common.{◌≡◌, ◌∙◌, ap, sym, arith}
use Rattle.made_session.specs.Each.{each_below, listed}
use Rattle.made_session.specs.Made.{track_route}
use Rattle.made_session.proofs.ListLemmas.{each-none, listed-push, listed-room}
use Rattle.made_session.proofs.routes.track_routes.Goals as goal

pub loop-t-init : goal.loop-t-init
loop-t-init c = c.in_ok-list.ensures ∙ ap (listed 64) (sym (each-none (track_route c.args.n)))

pub push-requires : goal.push-requires
push-requires c = listed-room 64 (track_route c.args.n) c.loop-t.t c.loop-t.list c.loop-t.invariant (omega (arith, c.loop-t-test.true, c.tracks_made-t-end.ensures.few))

pub loop-t-preserved : goal.loop-t-preserved
loop-t-preserved c = listed-push 64 (track_route c.args.n) c.loop-t.t c.loop-t.list c.push.new.self c.in_ok-route.route c.loop-t.invariant c.in_ok-route.ensures c.push.ensures

pub returns : goal.returns
returns c = let all : c.loop-t.t ≡ c.tracks_made-t-end.result = omega (arith, c.loop-t-test.false, c.loop-t.auto) in
    c.loop-t.invariant ∙ ap (λ n. listed 64 (each_below (track_route c.args.n) n)) (all ∙ c.tracks_made-t-end.ensures.tracks)
