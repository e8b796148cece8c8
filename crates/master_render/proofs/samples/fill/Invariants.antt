use Rattle.std.proofs.Common.{◌≡◌, ◌*◌, take}
use Rattle.session_model.specs.Frames.{sounds_of}
use Rattle.playlist_layers.specs.Reads.{IsRead}
use Rattle.playlist_layers.proofs.Reading.{went}
use Rattle.master_render.specs.Offline.{offline_samples}
use Rattle.master_render.proofs.samples.fill.Given as goal

-- the frames so far stand there
abbrev pub invariant-loop-i : goal.invariant-loop-i
invariant-loop-i g l = record {
  told : g.F.Frames.outside.tells l.fn.reader → take (l.i * l.width) l.out ≡ offline_samples (sounds_of (g.F.Frames.outside.frames l.fn.reader)) l.s l.from l.i;
  read : IsRead g.F.Frames.outside g.F.Frames.rest l.fn.reader l.reader went;
}
