-- What is read from the first line on is read from here on, where no more is left.
use Rattle.std.proofs.Common.{◌≡◌, ◌≤◌, length}
use Rattle.report_reader.specs.Reading.{Before, reading, lines_of}
use Rattle.report_reader.proofs.report.skip.Given as goal

abbrev pub invariant-loop-line : goal.invariant-loop-line
invariant-loop-line l = record {
  goes : reading l.lines.number Before (lines_of l.lines.rest.now) ≡ reading l.fn.lines.number Before (lines_of l.fn.lines.rest.now);
  same : l.number ≡ l.lines.number;
  left : length l.lines.rest.now ≤ length l.fn.lines.rest.now;
}

abbrev pub decreases-loop-line : goal.decreases-loop-line
decreases-loop-line l = length l.lines.rest.now
