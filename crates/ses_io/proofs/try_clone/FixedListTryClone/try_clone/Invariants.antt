use Rattle.std.proofs.Common.{◌≡◌, ◌≤◌, take, length}
use Rattle.ses_io.proofs.try_clone.FixedListTryClone.try_clone.Given as goal

abbrev pub invariant-loop-item : goal.invariant-loop-item
invariant-loop-item g l = record {
  items : l.other.items ≡ take l.item-index l.self.items;
  room : l.other.room ≡ l.self.room;
  within : length l.self.items ≤ l.self.room;
}
