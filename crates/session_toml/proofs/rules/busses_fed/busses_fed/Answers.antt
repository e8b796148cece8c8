use Rattle.std.proofs.Common.{sym, ap, ◌∙◌}
use Rattle.std.specs.Option.{option_map}
use Rattle.session_model.specs.declared.refusal.SessionRefusal.TheVariants.{NotBus}
use Rattle.session_toml.specs.Rules.{none_of, first_target, is_track}
use Rattle.session_toml.proofs.FirstLaws.{given_first}
use Rattle.session_toml.proofs.rules.busses_fed.busses_fed.Goals as goal

pub returns-in-Some : goal.returns-in-Some
returns-in-Some c = ap (λ o. none_of (option_map NotBus o)) (sym (given_first (first_target (is_track c.args.tracks.now)) c.args.routes.now c.loop-route.route-index
    c.route-item.result c.in-Some.name c.loop-route-test.true c.route-item.is (sym c.fed_track.ensures ∙ c.in-Some.is)) ∙ c.loop-route.invariant)
