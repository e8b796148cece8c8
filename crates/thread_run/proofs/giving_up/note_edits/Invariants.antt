use Rattle.std.proofs.Common.{◌≡◌, take}
use Rattle.thread_run.proofs.giving_up.note_edits.Given as goal

abbrev pub invariant-loop-k : goal.invariant-loop-k
invariant-loop-k l = record { copied : l.edits.items ≡ take l.k l.accepted; room : l.edits.room ≡ l.fn.edits.room }
