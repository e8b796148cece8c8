-- So many of them are there.
use Rattle.std.proofs.Common.{◌≡◌, ◌*◌, length, Ok}
use Rattle.std.specs.Prelude.{replicate}
use Rattle.capture_flush.specs.declared.fault.WriteFault.{WriteFault}
use Rattle.capture_flush.specs.Writes.{Adds}
use Rattle.capture_flush.proofs.writes.append_repeated.Given as goal

abbrev pub invariant-loop-time : goal.invariant-loop-time
invariant-loop-time g l = record {
  added : Adds {E = WriteFault} g.M.Media.outside l.name (replicate (l.time * length l.zeros) 0) l.fn.media l.media (Ok tt);
  zeros : l.zeros ≡ replicate (length l.zeros) 0;
}
