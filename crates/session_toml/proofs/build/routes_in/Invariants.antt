-- The routes so far.
use Rattle.std.proofs.Common.{◌≡◌}
use Rattle.session_toml.specs.Built.{numbered, listed, route_in, kind_in}
use Rattle.session_toml.proofs.build.routes_in.Given as goal

abbrev pub invariant-loop-text : goal.invariant-loop-text
invariant-loop-text l = l.routes ≡ listed 64 (numbered (λ place. route_in l.names (kind_in l.tracks place)) 0 l.yielded)
