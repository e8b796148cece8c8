use Rattle.std.proofs.Common.{◌≡◌, length}
use Rattle.run_rings.specs.Rings.{AreRings}
use Rattle.run_rings.proofs.rings.new_track_ends.Given as goal

abbrev pub invariant-loop-t : goal.invariant-loop-t
invariant-loop-t l = record {
  items : AreRings l.s l.t l.ends.sends.items l.ends.plays.items;
  takes : AreRings l.s l.t l.ends.captures.items l.ends.flushes.items;
  room : (l.ends.sends.room ≡ length l.s.tracks.items) × (l.ends.plays.room ≡ length l.s.tracks.items)
      × (l.ends.captures.room ≡ length l.s.tracks.items) × (l.ends.flushes.room ≡ length l.s.tracks.items);
}
