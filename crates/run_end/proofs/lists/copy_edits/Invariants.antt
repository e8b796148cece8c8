use Rattle.std.proofs.Common.{◌≡◌, take}
use Rattle.run_end.proofs.lists.copy_edits.Given as goal

abbrev pub invariant-loop-k : goal.invariant-loop-k
invariant-loop-k l = record { copied : l.edits.items ≡ take l.k l.accepted; room : l.edits.room ≡ l.fn.edits.room }
