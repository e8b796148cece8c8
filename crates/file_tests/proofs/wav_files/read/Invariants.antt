use Rattle.std.proofs.Common.{◌≡◌, ◌-◌, ◌^◌}
use Rattle.wav_codec.specs.Progress.{Agrees, wanted_at}
use Rattle.file_tests.proofs.wav_files.read.Given as goal

-- the scan knows the size that was told, and agrees with the file
abbrev pub invariant-loop-next : goal.invariant-loop-next
invariant-loop-next l = record { size : l.scan.size ≡ l.fn.size; agrees : Agrees l.scan l.file }

-- places rise, and are bounded
abbrev pub decreases-loop-next : goal.decreases-loop-next
decreases-loop-next l = 2 ^ 33 - wanted_at l.scan
