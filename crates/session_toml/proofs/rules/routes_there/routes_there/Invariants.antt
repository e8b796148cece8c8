-- Nothing was found so far.
use Rattle.std.proofs.Common.{◌≡◌, drop, not}
use Rattle.session_toml.specs.Rules.{first_of, first_target, has_route}
use Rattle.session_toml.proofs.rules.routes_there.routes_there.Given as goal

abbrev pub invariant-loop-route : goal.invariant-loop-route
invariant-loop-route l = first_of (first_target (λ name. not (has_route l.routes name))) (drop l.route-index l.routes) ≡ first_of (first_target (λ name. not (has_route l.routes name))) l.routes
