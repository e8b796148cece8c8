-- What holding a report and a master against a session answers (own).
use Rattle.std.specs.Prelude.{◌≡◌, ℕ, List, length, Some, None, Result, Ok, Err}
use Rattle.sound_model.specs.Regions.{Sounds}
use Rattle.session_model.specs.declared.session.Session.{Session}
use Rattle.audio_source.specs.declared.refusal.ReadFault as source
use Rattle.cycle_journal.specs.Report.{Reported}
use Rattle.report_reader.specs.Grammar.{IsCut, IsReportAt, IsBadLine}
use Rattle.heard_blocks.specs.Reading.{reading}
use Rattle.report_verdict.specs.Lines.{lines_stand, refuted_at}
use Rattle.report_check.specs.declared.unverified.Unverified.{Unverified}
use Rattle.report_check.specs.declared.unverified.Unverified.TheVariants.{BadReport, Refuted, Unread}

-- A file holds this report, which begins with the line of this number, from 1.
pub record IsReportOf (bytes : List ℕ) (first : ℕ) (r : Reported) : Type 0 where
  pub lines : List (List ℕ)
  pub rest : List ℕ
  pub cut : IsCut bytes lines rest
  pub is : IsReportAt lines first r

-- The line of this number is the first of a file that no report has there.
pub record IsBadAt (bytes : List ℕ) (n : ℕ) : Type 0 where
  pub lines : List (List ℕ)
  pub rest : List ℕ
  pub cut : IsCut bytes lines rest
  pub bad : IsBadLine lines n

-- The report that a file holds, and the number of its first line that doesn't stand, where one doesn't.
pub record Found (bytes : List ℕ) : Type 0 where
  pub first : ℕ
  pub report : Reported
  pub holds : IsReportOf bytes first report

-- What the lines of a report say: so many entries where all stand, or the number of the first line that doesn't.
abbrev pub Finds : Session → Sounds → List ℕ → ℕ → Reported → Result ℕ Unverified → Type 0
Finds s sounds file first r (Ok entries) = (refuted_at first (lines_stand s sounds r file) ≡ None) × (entries ≡ length r.entries)
Finds s sounds file first r (Err (Refuted n)) = refuted_at first (lines_stand s sounds r file) ≡ Some n
Finds s sounds file first r (Err (BadReport n)) = ⊥
Finds s sounds file first r (Err (Unread why)) = Unit {0}

-- **The report stands line by line, or the number of the first line that doesn't, or of the first that no report has.**
-- What isn't read says nothing.
abbrev pub Verified : Session → Sounds → List ℕ → List ℕ → Result ℕ Unverified → Type 0
Verified s sounds bytes file (Ok entries) = (f : Found bytes) × (refuted_at f.first (lines_stand s sounds f.report file) ≡ None) × (entries ≡ length f.report.entries)
Verified s sounds bytes file (Err (Refuted n)) = (f : Found bytes) × (refuted_at f.first (lines_stand s sounds f.report file) ≡ Some n)
Verified s sounds bytes file (Err (BadReport n)) = IsBadAt bytes n
Verified s sounds bytes file (Err (Unread why)) = Unit {0}

-- how the reads ended: neither a bad line nor want of memory is theirs
abbrev pub reads : {A : Type 0} → Result A Unverified → Result (Unit {0}) source.ReadFault
reads (Ok x) = Ok tt
reads (Err (BadReport n)) = Ok tt
reads (Err (Refuted n)) = Ok tt
reads (Err (Unread why)) = reading {A = Unit {0}} (Err why)
