-- What the report of a run says, of its form, its edits and the entries of its journal as code holds them.
use Rattle.std.specs.Prelude.{List}
use Rattle.session_model.specs.declared.edit.Edit.{Edit}
use Rattle.cycle_journal.specs.declared.entry.Entry.{Entry}
use Rattle.cycle_journal.specs.declared.head.ReportHead.{ReportHead}
use Rattle.cycle_journal.specs.JournalView.{seen_entries}
use Rattle.cycle_journal.specs.Report.{Reported}

abbrev pub reported : ReportHead → List Edit → List Entry → Reported
reported head edits entries = record { head = head; edits = edits; entries = seen_entries entries }
