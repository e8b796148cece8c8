use Rattle.std.proofs.Common.{◌<◌, ◌≤◌, take, All}
use Rattle.session_model.specs.Region.{regions_of}
use Rattle.playlist_layers.specs.Spans.{IsWhole, picked}
use Rattle.playlist_layers.proofs.spans.span_end.Given as goal

-- the span is cut by the regions so far
abbrev pub invariant-loop-place : goal.invariant-loop-place
invariant-loop-place l = record {
  some : l.here < l.end;
  most : l.end ≤ l.last;
  whole : All (IsWhole l.here l.end) (picked (regions_of l.regions) (take l.place-index l.places));
}
