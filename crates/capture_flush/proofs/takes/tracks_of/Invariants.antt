-- The tracks before this one are listed.
use Rattle.std.proofs.Common.{◌≡◌, ◌≤◌, ◌<◌, ℕ, length, map, IsTrue}
use Rattle.std.specs.List.{range_with_len}
use Rattle.ses_units.specs.Name.{is_name}
use Rattle.engine_model.specs.Takes.{route_name}
use Rattle.capture_flush.specs.Taking.{at_first}
use Rattle.capture_flush.proofs.takes.tracks_of.Given as goal

abbrev pub invariant-loop-t : goal.invariant-loop-t
invariant-loop-t l = record {
  within : l.t ≤ length l.s.tracks.items;
  items : l.tracks.items ≡ map (at_first l.s) (range_with_len 0 l.t);
  room : l.tracks.room ≡ length l.s.tracks.items;
  named : (u : ℕ) → u < l.t → IsTrue (is_name (route_name l.s u));
  routes : l.routes ≡ l.s.routes.items;
}
