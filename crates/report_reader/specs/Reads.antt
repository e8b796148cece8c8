-- What reading a report answers (own).
use Rattle.std.specs.Prelude.{ℕ, ◌≤◌, List, Result, Ok, Err}
use Rattle.report_reader.specs.declared.report.Report.{Report}
use Rattle.report_reader.specs.declared.report.ReportRefusal.{ReportRefusal}
use Rattle.report_reader.specs.declared.report.ReportRefusal.TheVariants.{BadReport, NoMemory}
use Rattle.report_reader.specs.Grammar.{IsCut, IsReportAt, IsBadLine}
use Rattle.report_reader.specs.Reading.{reported_of}

-- **The report that stands among the lines of a file, or the first line that no report has there.** Want of memory says nothing.
abbrev pub Reads : List ℕ → Result Report ReportRefusal → Type 0
Reads bytes (Ok r) = (lines : List (List ℕ)) × (rest : List ℕ) × IsCut bytes lines rest × IsReportAt lines r.first_line (reported_of r)
Reads bytes (Err (BadReport n)) = (lines : List (List ℕ)) × (rest : List ℕ) × IsCut bytes lines rest × IsBadLine lines n
Reads bytes (Err NoMemory) = Unit {0}

-- the lists of a report have room for no more items than so many
pub record TakesAtMost (most : ℕ) (r : Report) : Type 0 where
  pub edits : r.edits.room ≤ most
  pub entries : r.journal.room ≤ most
