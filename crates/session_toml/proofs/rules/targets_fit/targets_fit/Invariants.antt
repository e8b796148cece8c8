-- Nothing was found so far.
use Rattle.std.proofs.Common.{◌≡◌, drop, find}
use Rattle.session_toml.specs.Rules.{narrows}
use Rattle.session_toml.proofs.rules.targets_fit.targets_fit.Given as goal

abbrev pub invariant-loop-route : goal.invariant-loop-route
invariant-loop-route l = find (narrows l.routes l.master) (drop l.route-index l.routes) ≡ find (narrows l.routes l.master) l.routes
