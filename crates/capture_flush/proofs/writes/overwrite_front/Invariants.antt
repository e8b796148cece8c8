-- The first bytes are over the front, and no write failed.
use Rattle.std.proofs.Common.{◌≡◌, ◌-◌, ◌≤◌, length}
use Rattle.ses_io.specs.Files.{Overwrites}
use Rattle.capture_flush.proofs.writes.overwrite_front.Given as goal

abbrev pub invariant-loop-done : goal.invariant-loop-done
invariant-loop-done g l = record {
  within : l.done ≤ length l.bytes;
  put : g.M.Media.outside.tells → Overwrites (g.M.Media.outside.files l.fn.media) (g.M.Media.outside.files l.media) l.name 0 l.bytes l.done;
  writes : g.M.Media.outside.write_faults l.media ≡ g.M.Media.outside.write_faults l.fn.media;
  reads : g.M.Media.outside.read_faults l.media ≡ g.M.Media.outside.read_faults l.fn.media;
}

abbrev pub decreases-loop-done : goal.decreases-loop-done
decreases-loop-done g l = length l.bytes - l.done
