-- All lines of edits stand exactly where the edits are accepted one after the other, none after a quit.
use Rattle.std.proofs.Common.{◌≡◌, ℕ, zero, suc, ◌+◌, ◌<◌, refl, ap, arith, sym, subst, List, length}
use Rattle.std.specs.Prelude.{Bool, true, false, not, map, slice_get, Some, Result, Ok, Err, IsOk}
use Rattle.std.specs.List.{list_all, range_with_len}
use Rattle.std.specs.Option.{option_map_or}
use Rattle.std.proofs.lemmas.Option.{slice_get_within}
use Rattle.session_model.specs.declared.session.Session.{Session}
use Rattle.session_model.specs.declared.edit.Edit.{Edit}
use Rattle.engine_model.specs.Editions.{apply, edition, IsAccepted}
use Rattle.engine_laws.proofs.ListLemmas.{item_at}
use Rattle.report_verdict.specs.Lines.{edit_stands, edits_stand, is_taken}
use Rattle.report_verdict.proofs.FallLemmas.{AllStand, both, first_of, second_of}

-- ---- all of a range

pub all_of_range : (f : ℕ → Bool) (i n k : ℕ) → AllStand (map f (range_with_len i n)) → k < n → f (i + k) ≡ true
all_of_range f i zero k e less = absurd (omega (arith, less))
all_of_range f i (suc n) zero e less = let on : i ≡ i + 0 = omega arith in subst (λ j. f j ≡ true) on (first_of (f i) (list_all (λ b. b) (map f (range_with_len (i + 1) n))) e)
all_of_range f i (suc n) (suc k) e less = let on : i + 1 + k ≡ i + suc k = omega arith in
    subst (λ j. f j ≡ true) on (all_of_range f (i + 1) n k (second_of (f i) (list_all (λ b. b) (map f (range_with_len (i + 1) n))) e) (omega (arith, less)))

pub range_stands : (f : ℕ → Bool) (i n : ℕ) → ((k : ℕ) → k < n → f (i + k) ≡ true) → AllStand (map f (range_with_len i n))
range_stands f i zero each = refl
range_stands f i (suc n) each = let on : i + 0 ≡ i = omega arith in
    both (subst (λ j. f j ≡ true) on (each 0 (omega arith)))
    (range_stands f (i + 1) n (λ k less. let next : i + suc k ≡ i + 1 + k = omega arith in subst (λ j. f j ≡ true) next (each (suc k) (omega (arith, less)))))

-- ---- one edit

is_ok : {E A : Type 0} (r : Result A E) → is_taken r ≡ true → IsOk r
is_ok (Ok x) e = refl
is_ok (Err why) e = absurd cc

was_ok : {E A : Type 0} (r : Result A E) → IsOk r → is_taken r ≡ true
was_ok (Ok x) ok = refl
was_ok (Err why) ok = absurd cc

no_quit : (b : Bool) → not b ≡ true → b ≡ false
no_quit true e = absurd cc
no_quit false e = refl

module _ (s : Session) (edits : List Edit) where
  pub edit_is_taken : (k : ℕ) (edit : Edit) → slice_get edits k ≡ Some edit → edit_stands s edits k ≡ true → IsOk (apply (edition s edits k) edit)
  edit_is_taken k edit here e = is_ok (apply (edition s edits k) edit)
      (subst (λ x. option_map_or (λ y. is_taken (apply (edition s edits k) y)) x false ≡ true) here (second_of (not (edition s edits k).transport.quit) (option_map_or (λ y. is_taken (apply (edition s edits k) y)) (slice_get edits k) false) e))

  pub edit_unended : (k : ℕ) → edit_stands s edits k ≡ true → (edition s edits k).transport.quit ≡ false
  edit_unended k e = no_quit (edition s edits k).transport.quit (first_of (not (edition s edits k).transport.quit) (option_map_or (λ y. is_taken (apply (edition s edits k) y)) (slice_get edits k) false) e)

  pub edit_stands_by : (k : ℕ) (edit : Edit) → slice_get edits k ≡ Some edit → (edition s edits k).transport.quit ≡ false → IsOk (apply (edition s edits k) edit) → edit_stands s edits k ≡ true
  edit_stands_by k edit here goes_on ok = both (ap not goes_on)
      (subst (λ x. option_map_or (λ y. is_taken (apply (edition s edits k) y)) x false ≡ true) (sym here) (was_ok (apply (edition s edits k) edit) ok))

  pub accepted_where_all_stand : AllStand (edits_stand s edits) → IsAccepted s edits
  accepted_where_all_stand all = record {
    each = λ k edit here. edit_is_taken k edit here (at k edit here);
    unended = λ k edit here. edit_unended k (at k edit here);
  }
    where
      at : (k : ℕ) (edit : Edit) → slice_get edits k ≡ Some edit → edit_stands s edits k ≡ true
      at k edit here = let on : 0 + k ≡ k = omega arith in
          subst (λ j. edit_stands s edits j ≡ true) on (all_of_range (edit_stands s edits) 0 (length edits) k all (slice_get_within edits k edit here))

  pub all_stand_where_accepted : IsAccepted s edits → AllStand (edits_stand s edits)
  all_stand_where_accepted accepted = range_stands (edit_stands s edits) 0 (length edits)
      (λ k less. let it = item_at edits k less in let on : k ≡ 0 + k = omega arith in
      subst (λ j. edit_stands s edits j ≡ true) on (edit_stands_by k it.0 it.1 (accepted.unended k it.0 it.1) (accepted.each k it.0 it.1)))
