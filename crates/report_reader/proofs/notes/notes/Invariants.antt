-- With the notes so far, those of the rest are those of the text.
use Rattle.std.proofs.Common.{◌≡◌, ◌-◌, ◌≤◌, length, map}
use Rattle.cycle_journal.specs.JournalView.{seen_note}
use Rattle.report_reader.specs.Notes.{notes_in}
use Rattle.report_reader.proofs.NotesLoop.{with_front}
use Rattle.report_reader.proofs.notes.notes.Given as goal

abbrev pub invariant-loop-rest : goal.invariant-loop-rest
invariant-loop-rest l = (with_front (map seen_note l.notes.items) (notes_in (32 - length l.notes.items) l.rest) ≡ notes_in 32 l.bytes) × (length l.notes.items ≤ 32)

abbrev pub decreases-loop-rest : goal.decreases-loop-rest
decreases-loop-rest l = 32 - length l.notes.items
