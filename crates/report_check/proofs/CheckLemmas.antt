-- What was found of a report's lines is what is answered.
use Rattle.std.proofs.Common.{◌≡◌, ℕ, ◌+◌, ap, ◌∙◌, subst, sym, List, length}
use Rattle.std.specs.Prelude.{Option, Some, None, Result, Ok, Err}
use Rattle.std.specs.Option.{option_map}
use Rattle.std.proofs.lemmas.List.{length-map}
use Rattle.sound_model.specs.Regions.{Sounds}
use Rattle.session_model.specs.declared.session.Session.{Session}
use Rattle.session_model.specs.declared.edit.Edit.{Edit}
use Rattle.cycle_journal.specs.declared.entry.Entry.{Entry}
use Rattle.cycle_journal.specs.declared.head.ReportHead.{ReportHead}
use Rattle.cycle_journal.specs.JournalView.{seen_entry}
use Rattle.cycle_journal.specs.Report.{Reported}
use Rattle.cycle_journal.specs.RunReport.{reported}
use Rattle.report_reader.specs.declared.report.Report.{Report}
use Rattle.report_reader.specs.Reading.{reported_of}
use Rattle.report_verdict.specs.Lines.{first_fall, lines_stand, refuted_at}
use Rattle.report_check.specs.declared.unverified.Unverified.{Unverified}
use Rattle.report_check.specs.declared.unverified.Unverified.TheVariants.{BadReport, Refuted, Unread}
use Rattle.report_check.specs.Verdict.{Finds, IsReportOf, Verified}

-- The parts of a report that was read.
pub record IsParts (r : Report) (head : ReportHead) (edits : List Edit) (entries : List Entry) : Type 0 where
  pub head_is : head ≡ r.head
  pub edits_are : edits ≡ r.edits.items
  pub entries_are : entries ≡ r.journal.items

module _ (s : Session) (sounds : Sounds) (file : List ℕ) (r : Report) (head : ReportHead) (edits : List Edit) (entries : List Entry) (parts : IsParts r head edits entries)
    (o : Option ℕ) (told : o ≡ first_fall (lines_stand s sounds (reported head edits entries) file)) where
  same : reported head edits entries ≡ reported_of r
  same = ap (λ h. reported h edits entries) parts.head_is ∙ ap (λ es. reported r.head es entries) parts.edits_are ∙ ap (λ xs. reported r.head r.edits.items xs) parts.entries_are

  first_is : first_fall (lines_stand s sounds (reported_of r) file) ≡ o
  first_is = sym (told ∙ ap (λ x. first_fall (lines_stand s sounds x file)) same)

  pub is_refuted : (first k : ℕ) → first ≡ r.first_line → o ≡ Some k → refuted_at r.first_line (lines_stand s sounds (reported_of r) file) ≡ Some (first + 1 + k)
  is_refuted first k at is = ap (option_map (λ n. r.first_line + 1 + n)) (first_is ∙ is) ∙ ap (λ n. Some (n + 1 + k)) (sym at)

  pub is_verified : o ≡ None → (refuted_at r.first_line (lines_stand s sounds (reported_of r) file) ≡ None) × (length entries ≡ length (reported_of r).entries)
  is_verified is = (ap (option_map (λ n. r.first_line + 1 + n)) (first_is ∙ is), ap length parts.entries_are ∙ sym (length-map r.journal.items seen_entry))

-- what its lines say is said of the report that the file holds; other files were read before
pub verified_by : (s : Session) (sounds now : Sounds) (bytes file later : List ℕ) (first : ℕ) (r : Reported) (answer : Result ℕ Unverified) → IsReportOf bytes first r → now ≡ sounds → later ≡ file →
    Finds s now later first r answer → Verified s sounds bytes file answer
verified_by s sounds now bytes file later first r answer holds sounds_same file_same finds = by answer (let K : Sounds → Type 0 = λ x. Finds s x file first r answer in subst K sounds_same
    (let L : List ℕ → Type 0 = λ x. Finds s now x first r answer in subst L file_same finds))
  where
    by : (a : Result ℕ Unverified) → Finds s sounds file first r a → Verified s sounds bytes file a
    by (Ok n) (stands, many) = (record { first = first; report = r; holds = holds }, stands, many)
    by (Err (Refuted n)) falls = (record { first = first; report = r; holds = holds }, falls)
    by (Err (BadReport n)) none = absurd none
    by (Err (Unread why)) said = tt
