-- What reading the report of a file gives.
use Rattle.std.specs.Prelude.{ℕ, ◌+◌, ◌<◌, ◌^◌, List, Result, Ok, Err}
use Rattle.report_reader.specs.declared.report.Report.{Report}
use Rattle.report_reader.specs.Grammar.{IsReadable}
use Rattle.report_reader.specs.Reading.{reported_of}
use Rattle.report_check.specs.declared.unverified.Unverified.{Unverified}
use Rattle.report_check.specs.declared.unverified.Unverified.TheVariants.{BadReport, Refuted, Unread}
use Rattle.report_check.specs.Verdict.{IsReportOf, IsBadAt}

-- A report that was read, whatever is told of its file.
pub record IsRead (r : Report) : Type 0 where
  pub readable : IsReadable (reported_of r)
  -- fewer lines stand before it than bytes
  pub near : r.first_line < 2 ^ 63 + 1

-- the report of these bytes, or the first line that no report has there; nothing is refuted so far
abbrev pub IsReadIn : List ℕ → Result Report Unverified → Type 0
IsReadIn bytes (Ok r) = IsReportOf bytes r.first_line (reported_of r)
IsReadIn bytes (Err (BadReport n)) = IsBadAt bytes n
IsReadIn bytes (Err (Refuted n)) = ⊥
IsReadIn bytes (Err (Unread why)) = Unit {0}
