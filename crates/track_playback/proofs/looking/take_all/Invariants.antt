use Rattle.std.proofs.Common.{◌≡◌, length, ◌-◌, ◌+◌, ◌^◌}
use Rattle.track_playback.specs.declared.playback.SpareBox.TheVariants.{Husk}
use Rattle.track_playback.specs.Looks.{Offers}
use Rattle.track_playback.proofs.looking.take_all.Given as goal

-- what was taken so far was offered, no load of the tail found nothing, and the husk has the room of the ring
abbrev pub invariant-loop-item : goal.invariant-loop-item
invariant-loop-item l = record {
  offers : Offers l.at l.fn.ring l.fn.window l.ring l.window (Husk l.husk);
  room : length l.husk.value.samples.items ≡ l.fn.window.samples;
  tails : l.ring.tails ≡ l.fn.ring.tails;
  heard : l.ring.heard ≡ l.fn.ring.heard;
}

-- a ring takes no more than 2 ^ 62 items
abbrev pub decreases-loop-item : goal.decreases-loop-item
decreases-loop-item l = 2 ^ 62 + 1 - length l.ring.received
