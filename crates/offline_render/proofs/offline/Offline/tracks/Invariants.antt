use Rattle.session_model.specs.Frames.{sounds_of}
use Rattle.playlist_layers.specs.Reads.{IsRead}
use Rattle.playlist_layers.proofs.Reading.{went}
use Rattle.offline_render.specs.Frame.{AreHeard}
use Rattle.offline_render.proofs.offline.Offline.tracks.Given as goal

-- the tracks so far are heard
abbrev pub invariant-loop-t : goal.invariant-loop-t
invariant-loop-t g l = record {
  told : g.F.Frames.outside.tells l.fn.frames → AreHeard (sounds_of (g.F.Frames.outside.frames l.fn.frames)) l.fn.s l.place l.t l.out;
  read : IsRead g.F.Frames.outside g.F.Frames.rest l.fn.frames l.frames went;
}
