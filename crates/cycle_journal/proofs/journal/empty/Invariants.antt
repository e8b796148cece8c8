use Rattle.std.proofs.Common.{◌≡◌, ◌+◌, length}
use Rattle.cycle_journal.proofs.journal.empty.Given as goal

-- what was taken out and what is left are as many as there is room for
abbrev pub invariant-loop-taken : goal.invariant-loop-taken
invariant-loop-taken l = record { long : length l.entries.items + l.taken ≡ l.entries.room; room : l.entries.room ≡ l.taken-end }
