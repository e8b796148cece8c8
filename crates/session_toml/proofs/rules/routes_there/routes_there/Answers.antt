use Rattle.std.proofs.Common.{sym, ap, ◌∙◌, not}
use Rattle.std.specs.Option.{option_map}
use Rattle.session_model.specs.declared.refusal.SessionRefusal.TheVariants.{NoRoute}
use Rattle.session_toml.specs.Rules.{none_of, first_target, has_route}
use Rattle.session_toml.proofs.FirstLaws.{given_first}
use Rattle.session_toml.proofs.rules.routes_there.routes_there.Goals as goal

pub returns-in-Some : goal.returns-in-Some
returns-in-Some c = ap (λ o. none_of (option_map NoRoute o)) (sym (given_first (first_target (λ name. not (has_route c.args.routes.now name))) c.args.routes.now c.loop-route.route-index
    c.route-item.result c.in-Some.name c.loop-route-test.true c.route-item.is (sym c.lost_route.ensures ∙ c.in-Some.is)) ∙ c.loop-route.invariant)
