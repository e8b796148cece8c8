use Rattle.std.proofs.Common.{◌≡◌, ◌-◌, ◌≤◌, length}
use Rattle.ses_io.specs.Streams.{Appends}
use Rattle.ses_io.proofs.sink.write_all.Given as goal

abbrev pub invariant-loop-done : goal.invariant-loop-done
invariant-loop-done g l = record {
  within : l.done ≤ length l.bytes;
  written : g.S.Sink.outside.tells → Appends (g.S.Sink.outside.held l.fn.sink) (g.S.Sink.outside.held l.sink) l.bytes l.done;
  count : g.S.Sink.outside.faults l.sink ≡ g.S.Sink.outside.faults l.fn.sink;
}

abbrev pub decreases-loop-done : goal.decreases-loop-done
decreases-loop-done g l = length l.bytes - l.done
