-- The edits that were looked at are accepted, with their changes.
use Rattle.std.proofs.Common.{◌≡◌, length, map}
use Rattle.session_change.specs.Change.{change_seen}
use Rattle.edit_history.proofs.HistoryLemmas.{SoFar}
use Rattle.edit_history.proofs.history.changes_of.Given as goal

abbrev pub invariant-loop-edit : goal.invariant-loop-edit
invariant-loop-edit l = record {
  so_far : SoFar l.fn.s l.edits l.edit-index l.now (map change_seen l.changes.items);
  many : length l.changes.items ≡ l.edit-index;
  room : l.changes.room ≡ length l.edits;
}
