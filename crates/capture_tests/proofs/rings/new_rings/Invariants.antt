-- Each of so many tracks has its rings.
use Rattle.std.proofs.Common.{◌≡◌, ◌≤◌, length}
use Rattle.capture_tests.specs.Bench.{AreOfTracks, SendsFirst, TakesFirst}
use Rattle.capture_tests.proofs.rings.new_rings.Given as goal

abbrev pub invariant-loop-t : goal.invariant-loop-t
invariant-loop-t l = record {
  within : l.t ≤ length l.s.tracks.items;
  routes : l.routes ≡ l.s.routes.items;
  sends_room : l.sends.room ≡ length l.s.tracks.items;
  takes_room : l.takes.room ≡ length l.s.tracks.items;
  sends : AreOfTracks (SendsFirst l.s) l.t l.sends.items;
  takes : AreOfTracks (TakesFirst l.s) l.t l.takes.items;
}
