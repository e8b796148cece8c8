use Rattle.std.proofs.Common.{◌≡◌, length}
use Rattle.engine_model.specs.Changes.{without_send}
use Rattle.session_change.proofs.sends.take_send.Given as goal

abbrev pub invariant-loop-i : goal.invariant-loop-i
invariant-loop-i l = record {
  left : without_send l.to l.sends.items ≡ without_send l.to l.initial.sends.items;
  room : l.sends.room ≡ l.initial.sends.room;
}

abbrev pub decreases-loop-i : goal.decreases-loop-i
decreases-loop-i l = length l.sends.items
