use Rattle.std.proofs.Common.{◌≡◌, ◌-◌, ◌^◌, Some}
use Rattle.ses_io.specs.Files.{content}
use Rattle.wav_codec.specs.Progress.{Agrees, wanted_at}
use Rattle.audio_source.proofs.heading.scanned.Given as goal

-- the scan knows the size that was told, and agrees with the file; no file changed, and no read failed
abbrev pub invariant-loop-next : goal.invariant-loop-next
invariant-loop-next g l = record {
  size : l.scan.size ≡ Some l.fn.size;
  agrees : g.M.Media.outside.tells → Agrees l.scan (content (g.M.Media.outside.files l.fn.media) l.name);
  files : g.M.Media.outside.files l.media ≡ g.M.Media.outside.files l.fn.media;
  reads : g.M.Media.outside.read_faults l.media ≡ g.M.Media.outside.read_faults l.fn.media;
  writes : g.M.Media.outside.write_faults l.media ≡ g.M.Media.outside.write_faults l.fn.media;
}

-- places rise, and are bounded
abbrev pub decreases-loop-next : goal.decreases-loop-next
decreases-loop-next g l = 2 ^ 33 - wanted_at l.scan
