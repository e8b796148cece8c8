-- A report that was read, and its place in the file.
use Rattle.std.proofs.Common.{ℕ, ◌+◌, ◌<◌, ◌≤◌, ◌^◌, ap, arith, List, [], ◌∷◌, ◌++◌, length}
use Rattle.std.specs.Prelude.{Ok}
use Rattle.std.proofs.lemmas.List.{length-append}
use Rattle.cycle_journal.specs.Report.{Reported, ended, report_lines}
use Rattle.report_reader.specs.declared.report.Report.{Report}
use Rattle.report_reader.specs.Grammar.{IsCut, IsReportAt}
use Rattle.report_reader.specs.Reading.{reported_of}
use Rattle.report_reader.specs.Reads.{Reads}
use Rattle.report_check.specs.Reading.{IsRead}

-- each line has a byte
lines_few : (lines : List (List ℕ)) → length lines ≤ length (ended lines)
lines_few [] = omega arith
lines_few (line ∷ lines) = omega (arith, lines_few lines, length-append line (10 ∷ ended lines))

cut_few : (bytes : List ℕ) (lines : List (List ℕ)) (rest : List ℕ) → IsCut bytes lines rest → length lines ≤ length bytes
cut_few bytes lines rest cut = omega (arith, lines_few lines, ap length cut.is, length-append (ended lines) rest)

first_near : (lines : List (List ℕ)) (first : ℕ) (r : Reported) → IsReportAt lines first r → first ≤ length lines + 1
first_near lines first r at = omega (arith, at.counted, ap length at.is, length-append at.before (report_lines r ++ at.behind))

pub is_read : (bytes : List ℕ) (r : Report) → length bytes < 2 ^ 63 → Reads bytes (Ok r) → IsRead r
is_read bytes r most (lines, rest, cut, at) = record {
  readable = at.readable;
  near = omega (arith, most, cut_few bytes lines rest cut, first_near lines r.first_line (reported_of r) at);
}
