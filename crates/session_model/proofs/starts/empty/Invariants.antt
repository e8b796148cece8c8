use Rattle.std.proofs.Common.{◌≡◌, length}
use Rattle.session_model.proofs.starts.empty.Given as goal

abbrev pub invariant-loop-list : goal.invariant-loop-list
invariant-loop-list l = l.list.room ≡ l.initial.list.room

abbrev pub decreases-loop-list : goal.decreases-loop-list
decreases-loop-list l = length l.list.items
