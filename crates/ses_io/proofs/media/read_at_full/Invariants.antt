-- The front of the buffer is the file's from the place on; no file changed, and no read failed.
use Rattle.std.proofs.Common.{◌≡◌, ◌-◌, ◌≤◌, length}
use Rattle.ses_io.specs.Files.{content, IsPart}
use Rattle.ses_io.proofs.media.read_at_full.Given as goal

abbrev pub invariant-loop-filled : goal.invariant-loop-filled
invariant-loop-filled g l = record {
  within : l.filled ≤ length l.buf;
  part : g.M.Media.outside.tells → IsPart (content (g.M.Media.outside.files l.fn.media) l.name) l.at l.buf l.filled;
  files : g.M.Media.outside.files l.media ≡ g.M.Media.outside.files l.fn.media;
  reads : g.M.Media.outside.read_faults l.media ≡ g.M.Media.outside.read_faults l.fn.media;
  writes : g.M.Media.outside.write_faults l.media ≡ g.M.Media.outside.write_faults l.fn.media;
}

abbrev pub decreases-loop-filled : goal.decreases-loop-filled
decreases-loop-filled g l = length l.buf - l.filled
