use Rattle.std.proofs.Common.{◌+◌, ◌<◌, ◌≤◌, length, drop, reverse, All}
use Rattle.session_model.specs.Region.{regions_of}
use Rattle.playlist_layers.specs.Spans.{CoversSpan, picked}
use Rattle.playlist_layers.proofs.HeardLemmas.{StandsFor}
use Rattle.playlist_layers.proofs.heard.heard.Given as goal

-- the places looked at so far are those from i on
abbrev pub invariant-loop-i : goal.invariant-loop-i
invariant-loop-i l = record {
  places : All (λ p. p < length l.regions) l.out.items;
  few : length l.out.items + l.i ≤ length l.places;
  covers : All (CoversSpan l.here l.count) (picked (regions_of l.regions) l.out.items);
  stands : StandsFor l.here l.count (picked (regions_of l.regions) l.out.items) (reverse (picked (regions_of l.regions) (drop l.i l.places)));
}

abbrev pub decreases-loop-i : goal.decreases-loop-i
decreases-loop-i l = l.i
