-- The first bytes are there, and no write failed.
use Rattle.std.proofs.Common.{◌≡◌, ◌-◌, ◌≤◌, length, take}
use Rattle.capture_flush.specs.Writes.{with_more}
use Rattle.capture_flush.proofs.writes.append_all.Given as goal

abbrev pub invariant-loop-done : goal.invariant-loop-done
invariant-loop-done g l = record {
  within : l.done ≤ length l.bytes;
  put : g.M.Media.outside.tells → g.M.Media.outside.files l.media ≡ with_more (g.M.Media.outside.files l.fn.media) l.name (take l.done l.bytes);
  writes : g.M.Media.outside.write_faults l.media ≡ g.M.Media.outside.write_faults l.fn.media;
  reads : g.M.Media.outside.read_faults l.media ≡ g.M.Media.outside.read_faults l.fn.media;
}

abbrev pub decreases-loop-done : goal.decreases-loop-done
decreases-loop-done g l = length l.bytes - l.done
