use Rattle.std.proofs.Common.{◌≡◌, ◌*◌, ◌++◌, length, replicate}
use Rattle.master_blocks.proofs.writing.write_zeros.Given as goal

-- the blocks so far stand at the end of what was held, and no write failed
abbrev pub invariant-loop-block : goal.invariant-loop-block
invariant-loop-block g l = record {
  held : g.W.Sink.outside.tells → g.W.Sink.outside.held l.sink ≡ g.W.Sink.outside.held l.initial.sink ++ replicate (l._block * length l.zeros) 0;
  count : g.W.Sink.outside.faults l.sink ≡ g.W.Sink.outside.faults l.initial.sink;
}
