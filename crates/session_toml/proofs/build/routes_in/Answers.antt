-- One more route.
use Rattle.std.proofs.Common.{◌≡◌, ℕ, ◌∙◌, ◌∷◌, ◌++◌, ap, sym, arith, rules, length, []}
use Rattle.std.proofs.lemmas.Iterator.Adapters.{YieldsList-from_vec}
use Rattle.std.proofs.lemmas.Iterator.Consumers.{YieldsList-turn}
use Rattle.session_walk.specs.declared.said.RouteText.{RouteText}
use Rattle.session_model.specs.declared.route.Route.{Route}
use Rattle.session_toml.specs.Built.{numbered, route_in, kind_in}
use Rattle.session_toml.proofs.NumberedLaws.{numbered-long, numbered-more, listed-more, listed-room}
use Rattle.session_toml.proofs.build.routes_in.Goals as goal

pub push-requires : goal.push-requires
push-requires c =
    let turn = YieldsList-turn (YieldsList-from_vec {s = c.into_iter-text-iterator.result} c.args.texts.items (search rules) (search rules)) c.loop-text.yielded c.loop-text.text-iterator c.loop-text.yielded_by c.next.result c.next.new.self c.in-Some.text c.in-Some.is c.next.ensures.steps in
    listed-room 64 (length c.loop-text.yielded) c.loop-text.routes (numbered (λ place. route_in c.args.names.now (kind_in c.args.tracks place)) 0 c.loop-text.yielded) c.loop-text.invariant
    (numbered-long (λ place. route_in c.args.names.now (kind_in c.args.tracks place)) 0 c.loop-text.yielded)
    (omega (arith, turn.0, c.requires.few))

pub loop-text-preserved : goal.loop-text-preserved
loop-text-preserved c =
    let f : ℕ → RouteText → Route = λ place. route_in c.args.names.now (kind_in c.args.tracks place) in
    let one = c.in_ok-route.ensures in
    let done = numbered f 0 c.loop-text.yielded in
    let place : c.kind_in-kind.result ≡ kind_in c.args.tracks (length c.loop-text.yielded) = c.kind_in-kind.ensures
    ∙ ap (kind_in c.args.tracks) (c.len.ensures.len ∙ ap (λ l. length l.items) c.loop-text.invariant ∙ numbered-long f 0 c.loop-text.yielded) in
    listed-more 64 c.loop-text.routes c.push.new.self done (numbered f 0 (c.loop-text.yielded ++ c.in-Some.text ∷ [])) c.in_ok-route.route c.loop-text.invariant c.push.ensures
    (numbered-more f 0 (length c.loop-text.yielded) c.loop-text.yielded c.in-Some.text (omega arith)
    ∙ ap (λ k. done ++ k ∷ []) (ap (λ kind. route_in c.args.names.now kind c.in-Some.text) (sym place) ∙ sym one))
