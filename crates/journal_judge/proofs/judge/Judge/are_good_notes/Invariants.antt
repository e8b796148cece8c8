-- The notes are good where those that are left are.
use Rattle.std.proofs.Common.{◌≡◌, map, drop}
use Rattle.cycle_journal.specs.JournalView.{seen_note}
use Rattle.journal_judge.specs.Deciding.{are_good_notes}
use Rattle.journal_judge.proofs.judge.Judge.are_good_notes.Given as goal

abbrev pub invariant-loop-t : goal.invariant-loop-t
invariant-loop-t l = are_good_notes l.history.changes l.self l.rolling l.t (map seen_note (drop l.t l.notes)) ≡ are_good_notes l.history.changes l.self l.rolling 0 (map seen_note l.notes)
