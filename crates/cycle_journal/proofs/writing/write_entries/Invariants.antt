use Rattle.std.proofs.Common.{◌+◌, drop}
use Rattle.cycle_journal.specs.JournalView.{seen_entries}
use Rattle.cycle_journal.specs.Report.{entry_lines, ended}
use Rattle.cycle_journal.proofs.PageLemmas.{LeadsTo}
use Rattle.cycle_journal.proofs.writing.write_entries.Given as goal

abbrev pub invariant-loop-i : goal.invariant-loop-i
invariant-loop-i g l = LeadsTo g.O.Sink.outside (ended (entry_lines 1 (seen_entries l.entries))) l.fn.page.text.bytes l.fn.out (ended (entry_lines (l.i + 1) (seen_entries (drop l.i l.entries)))) l.page.text.bytes l.out
