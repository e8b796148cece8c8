-- What verify answers, by the bytes of session, report and master (own).
use Rattle.std.specs.Prelude.{◌≡◌, ◌⊎◌, ℕ, ◌≤◌, List, length, Some, Result, Ok, Err}
use Rattle.ses_io.specs.Faults.{risen}
use Rattle.ses_io.specs.Files.{Files, content}
use Rattle.sound_model.specs.Regions.{Sounds}
use Rattle.session_model.specs.declared.session.Session.{Session}
use Rattle.command_words.specs.Words.{Verify}
use Rattle.cycle_journal.specs.declared.status.Status.{Status}
use Rattle.cycle_journal.specs.declared.status.Status.TheVariants as status
use Rattle.session_opening.specs.declared.unopened.Unopened.{Unopened}
use Rattle.session_opening.specs.Plan.{Open, Wrong, session_plan}
use Rattle.session_opening.specs.Status.{IsUnread, Says, status_of}
use Rattle.session_opening.specs.Sounds.{sounds_in}
use Rattle.report_verdict.specs.Lines.{lines_stand, refuted_at}
use Rattle.report_check.specs.Laws.{AllAgree}
use Rattle.report_check.specs.Verdict.{Found, IsBadAt}

-- **The verdict on a report and a master**: so many entries where all agree, the number of the first line that no report has, or
-- that of the first line of a report that doesn't stand. A failed read and want of memory say nothing.
abbrev pub IsVerdict : Session → Sounds → List ℕ → List ℕ → Result ℕ Status → Type 0
IsVerdict s sounds bytes file (Ok entries) = (all : AllAgree s sounds bytes file) × (entries ≡ length all.found.report.entries)
IsVerdict s sounds bytes file (Err (status.BadReport n)) = IsBadAt bytes n
IsVerdict s sounds bytes file (Err (status.Refuted n)) = (f : Found bytes) × (refuted_at f.first (lines_stand s sounds f.report file) ≡ Some n)
IsVerdict s sounds bytes file (Err status.ReadFault) = Unit {0}
IsVerdict s sounds bytes file (Err status.NoMemory) = Unit {0}
IsVerdict s sounds bytes file (Err _) = ⊥

-- the status says what is wrong, if it doesn't say that something wasn't read
abbrev pub IsWrong : Wrong → Result ℕ Status → Type 0
IsWrong wrong (Ok entries) = ⊥
IsWrong wrong (Err s) = Says wrong s ⊎ IsUnread s

-- the verdict where the session is opened, else what is wrong with it
abbrev pub IsAnswerOn : Open Session → Files → Verify → Result ℕ Status → Type 0
IsAnswerOn (Ok s) files v answer = IsVerdict s (sounds_in files s) (content files v.report) (content files v.master) answer
IsAnswerOn (Err wrong) files v answer = IsWrong wrong answer

-- **what verify answers**, by the files
abbrev pub IsAnswer : Files → Verify → Result ℕ Status → Type 0
IsAnswer files v answer = IsAnswerOn (session_plan files v.session) files v answer

-- ---- whatever anything tells

-- a status of verify
abbrev pub IsOfVerify : Status → Type 0
IsOfVerify s = ((n : ℕ) × (s ≡ status.BadReport n)) ⊎ (((n : ℕ) × (s ≡ status.Refuted n)) ⊎ ((why : Unopened) × (s ≡ status_of why)))

abbrev pub MayAnswer : Result ℕ Status → Type 0
MayAnswer (Ok entries) = Unit {0}
MayAnswer (Err s) = IsOfVerify s

-- the count of failed reads rose at ReadFault, and else stays
abbrev pub Counts : ℕ → ℕ → Result ℕ Status → Type 0
Counts before now (Ok entries) = now ≡ before
Counts before now (Err status.ReadFault) = risen before ≤ now
Counts before now (Err _) = now ≡ before
