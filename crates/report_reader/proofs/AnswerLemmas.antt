-- What reading a file answers.
use Rattle.std.proofs.Common.{◌≤◌, ℕ, List, Ok, Err, Result, arith}
use Rattle.report_reader.specs.declared.report.Report.{Report}
use Rattle.report_reader.specs.declared.report.ReportRefusal.{ReportRefusal}
use Rattle.report_reader.specs.declared.report.ReportRefusal.TheVariants.{BadReport, NoMemory}
use Rattle.report_reader.specs.Reading.{Before, cut, lines_of, reading, reported_of, Goes}
use Rattle.report_reader.specs.Reads.{Reads, TakesAtMost}
use Rattle.report_reader.proofs.BadLemmas.{refused_line, read_report_stands}
use Rattle.report_reader.proofs.CutLemmas.{is_cut}

pub answers : (bytes : List ℕ) (r : Result Report ReportRefusal) → Goes (λ x. Ok (x.first_line, reported_of x)) r (reading 1 Before (lines_of bytes)) → Reads bytes r
answers bytes (Ok r) goes = (lines_of bytes, (cut bytes).1, is_cut bytes, read_report_stands (lines_of bytes) (r.first_line, reported_of r) goes)
answers bytes (Err (BadReport n)) goes = (lines_of bytes, (cut bytes).1, is_cut bytes, refused_line (lines_of bytes) n goes)
answers bytes (Err NoMemory) goes = tt

pub takes_more : (n most : ℕ) (r : Report) → n ≤ most → TakesAtMost n r → TakesAtMost most r
takes_more n most r few takes = record { edits = omega (arith, few, takes.edits); entries = omega (arith, few, takes.entries) }
