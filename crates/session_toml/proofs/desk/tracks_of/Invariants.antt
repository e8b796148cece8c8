-- The routes, and what the tracks have beside, of those so far.
use Rattle.std.proofs.Common.{◌≡◌, map}
use Rattle.session_toml.proofs.desk.tracks_of.Given as goal

abbrev pub invariant-loop-text : goal.invariant-loop-text
invariant-loop-text l = record {
  routes : l.routes.items ≡ map (λ k. k.route) l.yielded;
  tracks : l.tracks.items ≡ map (λ k. k.own) l.yielded;
}
