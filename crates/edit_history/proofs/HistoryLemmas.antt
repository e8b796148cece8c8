-- A history grows by one edit after another, up to the first that doesn't stand.
use Rattle.std.proofs.Common.{◌≡◌, ℕ, suc, ◌+◌, ◌<◌, ◌≤◌, inl, inr, List, [], ◌∷◌, ◌++◌, length, map, take, drop, get_or, refl, sym, ap, subst, add-one, arith, ◌∙◌}
use Rattle.std.specs.Prelude.{All, IsTrue, false, Some, slice_get, Ok}
use Rattle.std.specs.Option.{option_map_or}
use Rattle.std.proofs.Math.Seq.{take-suc}
use Rattle.std.proofs.lemmas.Bool.{cases_lt}
use Rattle.std.proofs.lemmas.List.{length-take-le, map-append, take-append-drop, take_all}
use Rattle.std.proofs.lemmas.Option.{slice_get-get_or, slice_get_within, get_or_from_slice_get}
use Rattle.session_model.specs.declared.session.Session.{Session}
use Rattle.session_model.specs.declared.edit.Edit.{Edit}
use Rattle.engine_model.specs.Changes.{Change}
use Rattle.engine_model.specs.Commands.{change_of}
use Rattle.engine_model.specs.Edits.{keeps_forms}
use Rattle.engine_model.specs.Editions.{edition, IsAccepted}
use Rattle.engine_laws.proofs.EditionLemmas.{at_the_end, edition_stays, get_stays, one_longer}
use Rattle.session_change.specs.declared.change.Change as code
use Rattle.session_change.specs.Change.{change_seen}
use Rattle.edition_log.specs.EditionState.{EditionState, IsEditionOf, state_of}
use Rattle.edit_history.specs.History.{IsHistoryOf, FallsAt, IsFirstRefused, IsTaken, IsLeft}

-- The first k edits are accepted, and these are their changes.
pub record SoFar (s : Session) (edits : List Edit) (k : ℕ) (now : EditionState) (changes : List Change) : Type 0 where
  pub of : IsEditionOf s now
  pub first : now.edits ≡ take k edits
  pub ended : now.ended ≡ false
  pub within : k ≤ length edits
  pub many : length changes ≡ k
  pub each : (j : ℕ) (edit : Edit) (change : Change) → slice_get edits j ≡ Some edit → slice_get changes j ≡ Some change →
      change_of (edition s edits j).session (edition s edits j).transport.wrap edit ≡ Ok change

some_is : {X : Type 0} (x y : X) → Some x ≡ Some y → x ≡ y
some_is x y h = ap (λ o. option_map_or (λ z. z) o x) h

first_edition : (s : Session) (edits : List Edit) (k : ℕ) → k ≤ length edits → edition s (take k edits) k ≡ edition s edits k
first_edition s edits k le = sym (edition_stays s (take k edits) (drop k edits) k (subst (λ n. k ≤ n) (sym (length-take-le k edits le)) (omega arith)))
    ∙ ap (λ es. edition s es k) (take-append-drop k edits)

pub number_is : (s : Session) (edits : List Edit) (k : ℕ) (now : EditionState) (changes : List Change) → SoFar s edits k now changes → length now.edits ≡ k
number_is s edits k now changes old = ap (λ es. length es) old.first ∙ length-take-le k edits old.within

-- the edition is edition k of all edits
pub state_is : (s : Session) (edits : List Edit) (k : ℕ) (now : EditionState) (changes : List Change) → SoFar s edits k now changes → state_of now ≡ edition s edits k
state_is s edits k now changes old = old.of.state ∙ ap (edition s now.edits) (number_is s edits k now changes old) ∙ ap (λ es. edition s es k) old.first ∙ first_edition s edits k old.within

pub none_so_far : (s : Session) (edits : List Edit) (now : EditionState) → IsEditionOf s now → now.edits ≡ [] → now.ended ≡ false → SoFar s edits 0 now []
none_so_far s edits now of none ended = record {
  of = of;
  first = none;
  ended = ended;
  within = omega arith;
  many = refl;
  each = λ j edit change here there. absurd (grind (arith, there));
}

take_more : (edits : List Edit) (k : ℕ) (edit : Edit) → slice_get edits k ≡ Some edit → take (suc k) edits ≡ take k edits ++ edit ∷ []
take_more edits k edit here = take-suc edits k edit (slice_get_within edits k edit here) ∙ ap (λ e. take k edits ++ e ∷ []) (get_or_from_slice_get edits k edit edit here)

-- one more edit that stands
pub one_more : (s : Session) (edits : List Edit) (k : ℕ) (now new : EditionState) (changes : List Change) (edit : Edit) (change : Change) → SoFar s edits k now changes →
    slice_get edits k ≡ Some edit → IsTaken now edit change new → IsEditionOf s new → SoFar s edits (suc k) new (changes ++ change ∷ [])
one_more s edits k now new changes edit change old here taken of = record {
  of = of;
  first = taken.edits ∙ ap (λ es. es ++ edit ∷ []) old.first ∙ sym (take_more edits k edit here);
  ended = taken.ended;
  within = let lt : k < length edits = slice_get_within edits k edit here in omega (arith, lt);
  many = one_longer changes change ∙ ap (λ n. suc n) old.many;
  each = each;
}
  where
    its : (j : ℕ) → length changes ≡ j → (x : Edit) (c : Change) → slice_get edits j ≡ Some x → slice_get (changes ++ change ∷ []) j ≡ Some c →
        change_of (edition s edits j).session (edition s edits j).transport.wrap x ≡ Ok c
    its j at x c one two = let same_place : j ≡ k = sym at ∙ old.many in let same : edit ≡ x = some_is edit x (sym here ∙ ap (slice_get edits) (sym same_place) ∙ one) in
        let is : change ≡ c = some_is change c (sym (at_the_end changes change) ∙ ap (slice_get (changes ++ change ∷ [])) at ∙ two) in
        ap (λ n. change_of (edition s edits n).session (edition s edits n).transport.wrap x) same_place
        ∙ ap (λ e. change_of e.session e.transport.wrap x) (sym (state_is s edits k now changes old))
        ∙ ap (change_of (state_of now).session (state_of now).transport.wrap) (sym same) ∙ taken.is_change ∙ ap (λ d. Ok d) is

    each : (j : ℕ) (x : Edit) (c : Change) → slice_get edits j ≡ Some x → slice_get (changes ++ change ∷ []) j ≡ Some c →
        change_of (edition s edits j).session (edition s edits j).transport.wrap x ≡ Ok c
    each j x c one two = elim (cases_lt j (length changes)) [
      | inl lt ↦ old.each j x c one (sym (get_stays changes (change ∷ []) j lt) ∙ two)
      | inr ge ↦ let within : j < length (changes ++ change ∷ []) = slice_get_within (changes ++ change ∷ []) j c two in
          its j (grind (arith, within, ge, one_longer changes change)) x c one two
    ]

-- all edits stand
pub all_stand : (s : Session) (edits : List Edit) (k : ℕ) (now : EditionState) (changes : List Change) → SoFar s edits k now changes → length edits ≤ k → length edits ≤ 10000 → All (λ e. IsTrue (keeps_forms e)) edits →
    IsHistoryOf s (record { edits = edits; changes = changes })
all_stand s edits k now changes old past few forms = record {
  accepted = subst (IsAccepted s) (old.first ∙ take_all k edits past) old.of.accepted;
  forms = forms;
  few = few;
  many = old.many ∙ (omega (arith, old.within, past));
  each = old.each;
}

-- the next one falls
pub one_falls : (s : Session) (edits : List Edit) (k n : ℕ) (now new : EditionState) (changes : List Change) (edit : Edit) → SoFar s edits k now changes →
    slice_get edits k ≡ Some edit → IsLeft now edit new → n ≡ length new.edits → IsFirstRefused s edits (n + 1)
one_falls s edits k n now new changes edit old here left number = record {
  place = k;
  number = add-one n ∙ ap (λ m. suc m) (number ∙ ap (λ e. length e.edits) left.same ∙ number_is s edits k now changes old);
  edit = edit;
  here = here;
  before = subst (IsAccepted s) old.first old.of.accepted;
  falls = subst (λ e. FallsAt e edit) (state_is s edits k now changes old) left.falls;
}

-- ---- as the loop has it

pub at_place : (edits : List Edit) (k : ℕ) (edit : Edit) → k < length edits → edit ≡ get_or edits k edit → slice_get edits k ≡ Some edit
at_place edits k edit lt is = slice_get-get_or edits k edit lt ∙ ap (λ e. Some e) (sym is)

pub one_longer_by : {X : Type 0} (xs ys : List X) (x : X) (k : ℕ) → ys ≡ xs ++ x ∷ [] → length xs ≡ k → length ys ≡ k + 1
one_longer_by xs ys x k is many = ap (λ l. length l) is ∙ one_longer xs x ∙ ap (λ n. suc n) many ∙ sym (add-one k)

pub stands_behind : (s : Session) (edits : List Edit) (k : ℕ) (now new : EditionState) (changes all : List code.Change) (edit : Edit) (change : code.Change) →
    SoFar s edits k now (map change_seen changes) → slice_get edits k ≡ Some edit → IsTaken now edit (change_seen change) new → IsEditionOf s new →
    all ≡ changes ++ change ∷ [] → SoFar s edits (k + 1) new (map change_seen all)
stands_behind s edits k now new changes all edit change old here taken of is = subst (λ l. SoFar s edits (k + 1) new l)
    (sym (ap (map change_seen) is ∙ map-append change_seen changes (change ∷ [])))
    (subst (λ n. SoFar s edits n new (map change_seen changes ++ change_seen change ∷ [])) (sym (add-one k))
    (one_more s edits k now new (map change_seen changes) edit (change_seen change) old here taken of))
