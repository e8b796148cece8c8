-- The first line behind those that stand.
use Rattle.std.proofs.Common.{◌≡◌, ℕ, suc, ◌+◌, ap, ap₂, arith, ◌∙◌, sym, subst, refl, List, [], ◌∷◌, length}
use Rattle.std.specs.Prelude.{Bool, true, false, Option, Some, None, Result, Err}
use Rattle.std.specs.Option.{option_map, is_some}
use Rattle.std.proofs.lemmas.List.{length-map}
use Rattle.session_model.specs.declared.session.Session.{Session}
use Rattle.session_model.specs.declared.edit.Edit.{Edit}
use Rattle.engine_model.specs.Editions.{IsAccepted}
use Rattle.engine_model.specs.Played.{Samples}
use Rattle.cycle_journal.specs.declared.entry.Entry as code
use Rattle.cycle_journal.specs.JournalView.{seen_entry, seen_entries}
use Rattle.edit_history.specs.declared.history.HistoryRefusal.{HistoryRefusal}
use Rattle.edit_history.specs.declared.history.HistoryRefusal.TheVariants.{Refused}
use Rattle.edit_history.specs.History.{IsFirstRefused, NamesFirst}
use Rattle.report_verdict.specs.Lines.{edits_stand, entries_behind, entries_stand, first_fall}
use Rattle.report_verdict.specs.Master.{is_silent_from}
use Rattle.report_check.specs.Checking.{lines_behind}
use Rattle.report_check.proofs.FirstLemmas.{behind, fall_of_both, found_first, none_first}
use Rattle.report_check.proofs.EditLemmas.{edits_many, first_edit_falls, no_edit_falls}
use Rattle.report_check.proofs.EntryLemmas.{entries_many}

module _ (s : Session) (edits : List Edit) (samples : Samples) (file : List ℕ) (cycles : ℕ) (entries : List code.Entry) where
  abbrev stand : List Bool
  stand = entries_stand s edits samples file [] (seen_entries entries)

  entries_long : length stand ≡ length entries
  entries_long = entries_many s edits samples file (seen_entries entries) [] (seen_entries entries) ∙ length-map entries seen_entry

  -- ---- the entries, and the last line

  pub entry_falls : (c : Option ℕ) → is_some c ≡ true → c ≡ first_fall stand → c ≡ first_fall (entries_behind s edits samples file cycles (seen_entries entries))
  entry_falls c some is = is ∙ sym (fall_of_both stand (is_silent_from s (length (seen_entries entries)) cycles file ∷ [])
      ∙ found_first (first_fall stand) (length stand) (first_fall (is_silent_from s (length (seen_entries entries)) cycles file ∷ [])) (ap is_some (sym is) ∙ some))

  last_line : (c : Option ℕ) (b : Bool) → is_some c ≡ false → c ≡ first_fall stand → b ≡ is_silent_from s (length entries) cycles file →
      first_fall (entries_behind s edits samples file cycles (seen_entries entries)) ≡ option_map (λ k. length entries + k) (first_fall (b ∷ []))
  last_line c b none is held = fall_of_both stand (is_silent_from s (length (seen_entries entries)) cycles file ∷ [])
      ∙ ap₂ (λ o n. behind o n (first_fall (is_silent_from s (length (seen_entries entries)) cycles file ∷ []))) (sym is ∙ none_first c none) entries_long
      ∙ ap (λ n. option_map (λ k. length entries + k) (first_fall (is_silent_from s n cycles file ∷ []))) (length-map entries seen_entry)
      ∙ ap (λ x. option_map (λ k. length entries + k) (first_fall (x ∷ []))) (sym held)

  pub last_stands : (c : Option ℕ) (b : Bool) → is_some c ≡ false → c ≡ first_fall stand → b ≡ is_silent_from s (length entries) cycles file → b ≡ true →
      None ≡ first_fall (entries_behind s edits samples file cycles (seen_entries entries))
  last_stands c b none is held still = sym (last_line c b none is held ∙ ap (λ x. option_map (λ k. length entries + k) (first_fall (x ∷ []))) still)

  pub last_falls : (c : Option ℕ) (b : Bool) → is_some c ≡ false → c ≡ first_fall stand → b ≡ is_silent_from s (length entries) cycles file → b ≡ false →
      Some (length entries) ≡ first_fall (entries_behind s edits samples file cycles (seen_entries entries))
  last_falls c b none is held fell = let same : length entries + 0 ≡ length entries = omega arith in
      sym (last_line c b none is held ∙ ap (λ x. option_map (λ k. length entries + k) (first_fall (x ∷ []))) fell ∙ ap Some same)

  -- ---- the edits before them

  abbrev later : Option ℕ
  later = first_fall (entries_behind s edits samples file cycles (seen_entries entries))

  pub behind_edits : IsAccepted s edits → option_map suc (first_fall (lines_behind s edits samples file cycles (seen_entries entries))) ≡ option_map (λ k. 1 + length edits + k) later
  behind_edits accepted = ap (option_map suc) (fall_of_both (edits_stand s edits) (entries_behind s edits samples file cycles (seen_entries entries))
      ∙ ap₂ (λ o n. behind o n later) (no_edit_falls s edits accepted) (edits_many s edits)) ∙ go later
    where
      go : (o : Option ℕ) → option_map suc (option_map (λ k. length edits + k) o) ≡ option_map (λ k. 1 + length edits + k) o
      go None = refl
      go (Some k) = let same : suc (length edits + k) ≡ 1 + length edits + k = omega arith in ap Some same

  pub edit_falls : (n : ℕ) → IsFirstRefused s edits n → Some n ≡ option_map suc (first_fall (lines_behind s edits samples file cycles (seen_entries entries)))
  edit_falls n first = ap Some first.number ∙ sym (ap (option_map suc) (fall_of_both (edits_stand s edits) (entries_behind s edits samples file cycles (seen_entries entries))
      ∙ ap (λ o. behind o (length (edits_stand s edits)) later) (first_edit_falls s edits n first)))

-- what a refusal names
pub first_of_refused : {A : Type 0} (s : Session) (edits : List Edit) (answer : Result A HistoryRefusal) (n : ℕ) → answer ≡ Err (Refused n) → NamesFirst s edits answer → IsFirstRefused s edits n
first_of_refused s edits answer n is names = subst (λ a. NamesFirst s edits a) is names
