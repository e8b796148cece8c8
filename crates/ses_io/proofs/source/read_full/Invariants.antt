use Rattle.std.proofs.Common.{◌≡◌, ◌-◌, ◌≤◌, length}
use Rattle.ses_io.specs.Streams.{Takes}
use Rattle.ses_io.proofs.source.read_full.Given as goal

abbrev pub invariant-loop-filled : goal.invariant-loop-filled
invariant-loop-filled g l = record {
  within : l.filled ≤ length l.buf;
  none : length l.buf ≡ 0 → l.source ≡ l.fn.source;
  taken : g.S.Source.outside.tells → Takes (g.S.Source.outside.left l.fn.source) (g.S.Source.outside.left l.source) l.buf l.filled;
  count : g.S.Source.outside.faults l.source ≡ g.S.Source.outside.faults l.fn.source;
}

abbrev pub decreases-loop-filled : goal.decreases-loop-filled
decreases-loop-filled g l = length l.buf - l.filled
