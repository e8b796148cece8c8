-- What is read from the first item on is read from here on, and there is room for it, but no more than there was.
use Rattle.std.proofs.Common.{◌≡◌, ℕ, length}
use Rattle.report_reader.specs.Reading.{Within, reading, lines_of, reported_of, HasRoom}
use Rattle.report_reader.specs.Reads.{TakesAtMost}
use Rattle.report_reader.proofs.report.Report.read_items.Given as goal

abbrev pub invariant-loop-line : goal.invariant-loop-line
invariant-loop-line l = record {
  goes : reading l.lines.number (Within l.self.first_line (reported_of l.self)) (lines_of l.lines.rest.now) ≡ reading l.fn.lines.number (Within l.fn.self.first_line (reported_of l.fn.self)) (lines_of l.fn.lines.rest.now);
  same : l.number ≡ l.lines.number;
  memory : (most : ℕ) → TakesAtMost most l.fn.self → TakesAtMost most l.self;
  room : HasRoom (length (lines_of l.lines.rest.now)) l.self;
}

abbrev pub decreases-loop-line : goal.decreases-loop-line
decreases-loop-line l = length l.lines.rest.now
