-- What the grammar of reports keeps (own).
use Rattle.std.specs.Prelude.{◌≡◌, ℕ, List, []}
use Rattle.cycle_journal.specs.Report.{Reported, report, report_lines}
use Rattle.report_reader.specs.Grammar.{IsReadable, IsCut, IsReportAt, IsBadLine}

-- a file has its lines one way
abbrev pub FilesAreCutOneWay : Type 0
FilesAreCutOneWay = (bytes : List ℕ) (lines others : List (List ℕ)) (rest left : List ℕ) → IsCut bytes lines rest → IsCut bytes others left → (lines ≡ others) × (rest ≡ left)

-- lines hold at most one report, at one place
abbrev pub ReportsAreReadOneWay : Type 0
ReportsAreReadOneWay = (lines : List (List ℕ)) (f g : ℕ) (x y : Reported) → IsReportAt lines f x → IsReportAt lines g y → (f ≡ g) × (x ≡ y)

-- where there is a report, no line is bad
abbrev pub ReadHasNoBadLine : Type 0
ReadHasNoBadLine = (lines : List (List ℕ)) (first n : ℕ) (r : Reported) → IsReportAt lines first r → IsBadLine lines n → ⊥

-- at most one line is the first that is bad
abbrev pub OneLineIsBad : Type 0
OneLineIsBad = (lines : List (List ℕ)) (n m : ℕ) → IsBadLine lines n → IsBadLine lines m → n ≡ m

-- the text of a report has its lines, and they hold just that report from line 1 on
abbrev pub WrittenIsRead : Type 0
WrittenIsRead = (r : Reported) → IsReadable r → IsCut (report r) (report_lines r) [] × IsReportAt (report_lines r) 1 r
