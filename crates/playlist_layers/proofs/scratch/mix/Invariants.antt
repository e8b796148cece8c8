use Rattle.std.proofs.Common.{◌≡◌, ◌-◌, ◌*◌, ◌≤◌, length, drop}
use Rattle.session_model.specs.Frames.{sounds_of}
use Rattle.session_model.specs.Region.{regions_of}
use Rattle.mix_kernel.specs.Bounds.{AllNear}
use Rattle.playlist_layers.specs.Blocks.{layer_block}
use Rattle.playlist_layers.specs.Reads.{IsRead}
use Rattle.playlist_layers.specs.Spans.{picked}
use Rattle.playlist_layers.proofs.Reading.{went}
use Rattle.playlist_layers.proofs.scratch.mix.Given as goal

-- the regions at the places from i on are laid over one another
abbrev pub invariant-loop-i : goal.invariant-loop-i
invariant-loop-i g l = record {
  within : l.i ≤ length l.places;
  told : g.F.Frames.outside.tells l.fn.frames → l.sums ≡ layer_block (sounds_of (g.F.Frames.outside.frames l.fn.frames))
      (picked (regions_of l.regions) (drop l.i l.places)) l.channels l.here (length l.out);
  near : AllNear ((length l.places - l.i) * 8589934592) l.sums;
  room : l.layer ≡ l.fn.layer;
  read : IsRead g.F.Frames.outside g.F.Frames.rest l.fn.frames l.frames went;
}

abbrev pub decreases-loop-i : goal.decreases-loop-i
decreases-loop-i g l = l.i
