use Rattle.std.proofs.Common.{◌+◌}
use Rattle.cycle_journal.specs.JournalView.{seen_entry}
use Rattle.cycle_journal.specs.Report.{entry_line}
use Rattle.cycle_journal.proofs.PageLemmas.{line_more, line_fails, lines_done}
use Rattle.cycle_journal.proofs.ReportLemmas.{entries_more, entries_done}
use Rattle.cycle_journal.proofs.writing.write_entries.Goals as goal

pub loop-i-init : goal.loop-i-init
loop-i-init g c = λ w s r adds. adds

pub loop-i-preserved : goal.loop-i-preserved
loop-i-preserved g c =
    line_more g.O.Sink.outside _ _ _ (entry_line (c.loop-i.i + 1) (seen_entry c.index-entries-i.result)) _ _ _ _ _ _ _ c.loop-i.invariant
    (entries_more c.args.entries.now c.loop-i.i c.index-entries-i.result c.loop-i-test.true c.index-entries-i.is)
    c.in_ok-make_room.ensures.adds c.entry.ensures

pub returns-in_err-make_room : goal.returns-in_err-make_room
returns-in_err-make_room g c = line_fails g.O.Sink.outside _ _ _ _ _ _ _ _ _ _ c.loop-i.invariant c.in_err-make_room.ensures.adds c.from_residual.ensures.0

pub returns : goal.returns
returns g c = lines_done g.O.Sink.outside _ _ _ _ _ _ c.loop-i.invariant (entries_done c.args.entries.now c.loop-i.i c.loop-i-test.false)
