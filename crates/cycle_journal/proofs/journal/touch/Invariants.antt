use Rattle.std.proofs.Common.{◌≡◌, length}
use Rattle.cycle_journal.proofs.journal.touch.Given as goal

abbrev pub invariant-loop-made : goal.invariant-loop-made
invariant-loop-made l = record { long : length l.entries.items ≡ l.made; room : l.entries.room ≡ l.made-end }
