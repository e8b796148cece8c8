-- Which line of the edits falls first.
use Rattle.std.proofs.Common.{◌≡◌, ℕ, ◌+◌, ◌<◌, ◌≤◌, refl, ap, arith, ◌∙◌, sym, subst, inl, inr, List, length, take, drop}
use Rattle.std.specs.Prelude.{Bool, true, false, not, ◌&&◌, Some, None, slice_get, Result, Ok, Err, IsOk, IsErr}
use Rattle.std.specs.Option.{option_map_or}
use Rattle.std.proofs.lemmas.List.{length-take-le, take-append-drop}
use Rattle.std.proofs.lemmas.List.FromFn.{length-map-range_with_len}
use Rattle.std.proofs.lemmas.Option.{slice_get_within}
use Rattle.session_model.specs.declared.session.Session.{Session}
use Rattle.session_model.specs.declared.edit.Edit.{Edit}
use Rattle.engine_model.specs.Editions.{Edition, apply, edition, IsAccepted}
use Rattle.engine_laws.proofs.EditionLemmas.{edition_stays, get_stays}
use Rattle.engine_laws.proofs.ListLemmas.{item_at}
use Rattle.edit_history.specs.History.{FallsAt, IsFirstRefused}
use Rattle.report_verdict.specs.Lines.{edit_stands, edits_stand, first_fall, is_taken}
use Rattle.report_verdict.proofs.EditLemmas.{all_stand_where_accepted, edit_stands_by}
use Rattle.report_verdict.proofs.FallLemmas.{all_stand}
use Rattle.report_check.proofs.FirstLemmas.{range_falls}

not_taken : {E A : Type 0} (r : Result A E) → IsErr r → is_taken r ≡ false
not_taken (Ok x) e = absurd cc
not_taken (Err why) e = refl

no_both : (a b : Bool) → b ≡ false → (a && b) ≡ false
no_both true b e = e
no_both false b e = refl

ends : (a b : Bool) → a ≡ true → (not a && b) ≡ false
ends true b e = refl
ends false b e = absurd cc

module _ (s : Session) (edits : List Edit) where
  pub no_edit_falls : IsAccepted s edits → first_fall (edits_stand s edits) ≡ None
  no_edit_falls accepted = all_stand (edits_stand s edits) (all_stand_where_accepted s edits accepted)

  pub edits_many : length (edits_stand s edits) ≡ length edits
  edits_many = length-map-range_with_len (edit_stands s edits) 0 (length edits)

  falls_here : (k : ℕ) (edit : Edit) → slice_get edits k ≡ Some edit → FallsAt (edition s edits k) edit → edit_stands s edits k ≡ false
  falls_here k edit here (inl quit) = ends (edition s edits k).transport.quit (option_map_or (λ y. is_taken (apply (edition s edits k) y)) (slice_get edits k) false) quit
  falls_here k edit here (inr refused) = no_both (not (edition s edits k).transport.quit) (option_map_or (λ y. is_taken (apply (edition s edits k) y)) (slice_get edits k) false)
      (ap (λ o. option_map_or (λ y. is_taken (apply (edition s edits k) y)) o false) here ∙ not_taken (apply (edition s edits k) edit) refused)

  -- an edit before a first part's end stands, where that part is accepted
  module _ (k : ℕ) (within : k ≤ length edits) (accepted : IsAccepted s (take k edits)) where
    same_edition : (j : ℕ) → j < k → edition s (take k edits) j ≡ edition s edits j
    same_edition j lt = sym (edition_stays s (take k edits) (drop k edits) j (subst (λ n. j ≤ n) (sym (length-take-le k edits within)) (omega (arith, lt))))
        ∙ ap (λ es. edition s es j) (take-append-drop k edits)

    stood : (j : ℕ) → j < k → edit_stands s edits j ≡ true
    stood j lt = let lt_first : j < length (take k edits) = subst (λ n. j < n) (sym (length-take-le k edits within)) lt in
        let it = item_at (take k edits) j lt_first in
        let here : slice_get edits j ≡ Some it.0 = ap (λ es. slice_get es j) (sym (take-append-drop k edits)) ∙ get_stays (take k edits) (drop k edits) j lt_first ∙ it.1 in
        edit_stands_by s edits j it.0 here
        (ap (λ (e : Edition). e.transport.quit) (sym (same_edition j lt)) ∙ accepted.unended j it.0 it.1)
        (subst (λ e. IsOk (apply e it.0)) (same_edition j lt) (accepted.each j it.0 it.1))

  pub first_edit_falls : (n : ℕ) → (first : IsFirstRefused s edits n) → first_fall (edits_stand s edits) ≡ Some first.place
  first_edit_falls n first = let less = slice_get_within edits first.place first.edit first.here in
      range_falls (edit_stands s edits) 0 (length edits) first.place less
      (λ j lt. let on : 0 + j ≡ j = omega arith in ap (edit_stands s edits) on ∙ stood first.place (omega (arith, less)) first.before j lt)
      (let on : 0 + first.place ≡ first.place = omega arith in ap (edit_stands s edits) on ∙ falls_here first.place first.edit first.here first.falls)
