use Rattle.std.proofs.Common.{◌≡◌, ◌+◌, ◌*◌, ◌≤◌, ◌++◌, length, map, drop}
use Rattle.cycle_journal.specs.JournalView.{seen_note}
use Rattle.cycle_journal.specs.Report.{notes_text}
use Rattle.cycle_journal.proofs.page.Page.notes.Given as goal

-- with the text of the notes to come it is the whole
abbrev pub invariant-loop-note : goal.invariant-loop-note
invariant-loop-note l = record {
  told : l.self.text.bytes ++ notes_text (map seen_note (drop l.note-index l.notes)) ≡ l.fn.self.text.bytes ++ notes_text (map seen_note l.notes);
  long : length l.self.text.bytes ≤ length l.fn.self.text.bytes + 86 * l.note-index;
}
