use Rattle.std.proofs.Common.{◌≡◌, take, length}
use Rattle.route_lists.proofs.same_edit.same_edits.Given as goal

abbrev pub invariant-loop-x : goal.invariant-loop-x
invariant-loop-x l = take (length l.yielded) l.a ≡ take (length l.yielded) l.b
