-- Nothing was found so far.
use Rattle.std.proofs.Common.{◌≡◌, drop}
use Rattle.session_toml.specs.Rules.{first_of, first_target, is_track}
use Rattle.session_toml.proofs.rules.busses_fed.busses_fed.Given as goal

abbrev pub invariant-loop-route : goal.invariant-loop-route
invariant-loop-route l = first_of (first_target (is_track l.tracks)) (drop l.route-index l.routes) ≡ first_of (first_target (is_track l.tracks)) l.routes
