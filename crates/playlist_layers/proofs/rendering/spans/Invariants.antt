use Rattle.std.proofs.Common.{◌≡◌, ◌-◌, ◌*◌, ◌≤◌, take, reverse}
use Rattle.session_model.specs.Frames.{sounds_of}
use Rattle.session_model.specs.Region.{regions_of}
use Rattle.playlist_layers.specs.Blocks.{heard_block}
use Rattle.playlist_layers.specs.Reads.{IsRead}
use Rattle.playlist_layers.specs.Spans.{picked}
use Rattle.playlist_layers.proofs.Reading.{went}
use Rattle.playlist_layers.proofs.rendering.spans.Given as goal

-- the spans so far are filled
abbrev pub invariant-loop-done : goal.invariant-loop-done
invariant-loop-done g l = record {
  within : l.done ≤ l.count;
  told : g.F.Frames.outside.tells l.fn.frames → take (l.done * l.width) l.out ≡ heard_block (sounds_of (g.F.Frames.outside.frames l.fn.frames))
      (reverse (picked (regions_of l.regions) l.places)) l.channels l.from (l.done * l.width);
  room : l.scratch ≡ l.fn.scratch;
  read : IsRead g.F.Frames.outside g.F.Frames.rest l.fn.frames l.frames went;
}

abbrev pub decreases-loop-done : goal.decreases-loop-done
decreases-loop-done g l = l.count - l.done
