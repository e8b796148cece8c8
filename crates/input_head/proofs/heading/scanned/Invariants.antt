use Rattle.std.proofs.Common.{◌≡◌, ◌-◌, ◌^◌, ◌≤◌, None}
use Rattle.wav_codec.specs.Progress.{wanted_at}
use Rattle.input_head.specs.Steps.{IsReading}
use Rattle.input_head.proofs.heading.scanned.Given as goal

-- the size isn't told to the scan, which was given what was taken of the stream; and no read failed
abbrev pub invariant-loop-next : goal.invariant-loop-next
invariant-loop-next g l = record {
  size : l.scan.size ≡ None;
  place : l.taken ≤ wanted_at l.scan;
  reading : g.I.Source.outside.tells → IsReading g.start l.taken l.scan (g.I.Source.outside.left l.input);
  faults : g.I.Source.outside.faults l.input ≡ g.I.Source.outside.faults l.fn.input;
}

-- places rise, and are bounded
abbrev pub decreases-loop-next : goal.decreases-loop-next
decreases-loop-next g l = 2 ^ 33 - wanted_at l.scan

abbrev pub ghost-step : goal.ghost-step
ghost-step g a = g.start
