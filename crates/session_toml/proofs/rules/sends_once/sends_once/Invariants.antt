-- Nothing was found so far.
use Rattle.std.proofs.Common.{◌≡◌, drop}
use Rattle.session_toml.specs.Rules.{sends_once}
use Rattle.session_toml.proofs.rules.sends_once.sends_once.Given as goal

abbrev pub invariant-loop-route : goal.invariant-loop-route
invariant-loop-route l = sends_once (drop l.route-index l.routes) ≡ sends_once l.routes
