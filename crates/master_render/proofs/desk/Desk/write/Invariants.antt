use Rattle.std.proofs.Common.{◌≡◌, ◌-◌, ◌≤◌, ◌++◌}
use Rattle.session_model.specs.Frames.{sounds_of}
use Rattle.playlist_layers.specs.Reads.{IsRead}
use Rattle.playlist_layers.proofs.Reading.{went}
use Rattle.master_render.specs.Offline.{offline_bytes}
use Rattle.master_render.proofs.desk.Desk.write.Given as goal

-- the blocks so far are written, and no call failed
abbrev pub invariant-loop-done : goal.invariant-loop-done
invariant-loop-done g l = record {
  within : l.done ≤ l.frames;
  written : g.F.Frames.outside.tells l.fn.reader → g.W.Sink.outside.tells → g.W.Sink.outside.held l.master
      ≡ g.W.Sink.outside.held l.fn.master ++ offline_bytes (sounds_of (g.F.Frames.outside.frames l.fn.reader)) l.s l.from l.done;
  read : IsRead g.F.Frames.outside g.F.Frames.rest l.fn.reader l.reader went;
  count : g.W.Sink.outside.faults l.master ≡ g.W.Sink.outside.faults l.fn.master;
  same : l.self ≡ l.fn.self;
}

abbrev pub decreases-loop-done : goal.decreases-loop-done
decreases-loop-done g l = l.frames - l.done
