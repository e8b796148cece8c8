use Rattle.std.proofs.Common.{◌≡◌, ℕ, ◌<◌, ◌==◌, true, slice_index}
use Rattle.route_graph.specs.Places.{stands, AreOnce}
use Rattle.route_graph.proofs.feeders.unfed.Given as goal

abbrev pub invariant-loop-place : goal.invariant-loop-place
invariant-loop-place l = record {
  once : AreOnce l.places;
  zero : (t : ℕ) → t < l.place → stands l.places t ≡ (slice_index l.counts t == 0);
  low : (t : ℕ) → stands l.places t ≡ true → t < l.place;
}
