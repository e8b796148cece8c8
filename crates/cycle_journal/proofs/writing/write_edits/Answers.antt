use Rattle.std.proofs.Common.{◌+◌}
use Rattle.cycle_journal.specs.Report.{edit_line}
use Rattle.cycle_journal.proofs.PageLemmas.{line_more, line_fails, lines_done}
use Rattle.cycle_journal.proofs.ReportLemmas.{edits_more, edits_done}
use Rattle.cycle_journal.proofs.writing.write_edits.Goals as goal

pub loop-i-init : goal.loop-i-init
loop-i-init g c = λ w s r adds. adds

pub loop-i-preserved : goal.loop-i-preserved
loop-i-preserved g c =
    line_more g.O.Sink.outside _ _ _ (edit_line (c.loop-i.i + 1) c.index-edits-i.result) _ _ _ _ _ _ _ c.loop-i.invariant
    (edits_more c.args.edits.now c.loop-i.i c.index-edits-i.result c.loop-i-test.true c.index-edits-i.is)
    c.in_ok-make_room.ensures.adds c.edit.ensures

pub returns-in_err-make_room : goal.returns-in_err-make_room
returns-in_err-make_room g c = line_fails g.O.Sink.outside _ _ _ _ _ _ _ _ _ _ c.loop-i.invariant c.in_err-make_room.ensures.adds c.from_residual.ensures.0

pub returns : goal.returns
returns g c = lines_done g.O.Sink.outside _ _ _ _ _ _ c.loop-i.invariant (edits_done c.args.edits.now c.loop-i.i c.loop-i-test.false)
