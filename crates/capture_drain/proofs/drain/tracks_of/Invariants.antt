-- Each of so many tracks has its box.
use Rattle.std.proofs.Common.{◌≡◌, ◌≤◌, length}
use Rattle.std.specs.Prelude.{slice_get, Some}
use Rattle.capture_drain.proofs.FirstLemmas.{IsFirstOf}
use Rattle.capture_drain.proofs.drain.tracks_of.Given as goal

abbrev pub invariant-loop-t : goal.invariant-loop-t
invariant-loop-t l = record {
  within : l.t ≤ length l.s.tracks.items;
  routes : l.routes ≡ l.s.routes.items;
  many : length l.tracks.items ≡ l.t;
  each : (t : _) (k : _) → slice_get l.tracks.items t ≡ Some k → IsFirstOf l.s t k;
}
