use Rattle.std.proofs.Common.{◌≡◌, ◌-◌}
use mathlib.Core.List.{IsPrefix}
use Rattle.disk_ring.specs.Receiver.{GoesOnOut}
use Rattle.play_worker.specs.Kept.{KeepsRun}
use Rattle.play_worker.specs.Plays.{Plays, at_now, made_by}
use Rattle.play_worker.proofs.worker.cycles.Given as goal

abbrev pub ghost-one : goal.ghost-one
ghost-one g a = at_now g.I.Source.outside g.W.Sink.outside a.w

abbrev pub invariant-loop-end : goal.invariant-loop-end
invariant-loop-end g l = record {
  plays : Plays l.patience g.I.Source.outside g.W.Sink.outside l.w;
  told : l.w.told ≡ l.fn.w.told;
  keeps : KeepsRun l.fn.w.process l.w.process;
  grants : GoesOnOut l.fn.w.grants.from l.w.grants.from;
  grows : IsPrefix l.fn.w.reader.edition.edits l.w.reader.edition.edits;
}

-- each step that goes on makes one entry more, and a run has 100,000 at most
abbrev pub decreases-loop-end : goal.decreases-loop-end
decreases-loop-end g l = 100001 - made_by l.w
