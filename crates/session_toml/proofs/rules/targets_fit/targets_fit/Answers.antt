use Rattle.std.proofs.Common.{sym, ap, ◌∙◌}
use Rattle.std.specs.Option.{option_map}
use Rattle.session_model.specs.declared.refusal.SessionRefusal.TheVariants.{Channels}
use Rattle.session_toml.specs.Rules.{none_of, narrows}
use Rattle.session_toml.proofs.FirstLaws.{found_first}
use Rattle.session_toml.proofs.rules.targets_fit.targets_fit.Goals as goal

pub returns-then-narrows : goal.returns-then-narrows
returns-then-narrows c = ap (λ o. none_of (option_map (λ q. Channels q.named.name) o)) (sym (found_first (narrows c.args.routes.now c.args.master) c.args.routes.now c.loop-route.route-index
    c.route-item.result c.loop-route-test.true c.route-item.is (sym c.narrows.ensures ∙ c.if-narrows.true)) ∙ c.loop-route.invariant)
