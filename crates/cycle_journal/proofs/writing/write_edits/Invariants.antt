use Rattle.std.proofs.Common.{◌+◌, drop}
use Rattle.cycle_journal.specs.Report.{edit_lines, ended}
use Rattle.cycle_journal.proofs.PageLemmas.{LeadsTo}
use Rattle.cycle_journal.proofs.writing.write_edits.Given as goal

abbrev pub invariant-loop-i : goal.invariant-loop-i
invariant-loop-i g l = LeadsTo g.O.Sink.outside (ended (edit_lines 1 l.edits)) l.fn.page.text.bytes l.fn.out (ended (edit_lines (l.i + 1) (drop l.i l.edits))) l.page.text.bytes l.out
