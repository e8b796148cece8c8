-- What the writer's edition is after a step was published.
use Rattle.std.proofs.Common.{◌≡◌, ◌<◌, cond, Bool, true, false, nat_lt, List, [], ◌∷◌, ◌++◌, length, sym, ap, subst, ◌∙◌, lt_of_not-le}
use Rattle.std.specs.Prelude.{ℕ, Result, Ok, Err, IsOk, fold, MatchResult}
use Rattle.std.proofs.lemmas.Bool.{false≢true, lt-ltb}
use mathlib.Core.List.{IsPrefix, prefix-append}
use base.Growing.{prefix_refl}
use Rattle.session_model.specs.declared.edit.Edit.{Edit}
use Rattle.engine_model.specs.Editions.{apply}
use Rattle.edit_resolve.specs.declared.reason.Refusal.{Refusal}
use Rattle.edition_log.specs.EditionState.{EditionState, state_of}
use Rattle.edition_log.specs.Steps.{Applies}
use Rattle.edition_log.proofs.KeepLemmas.{refused_full}
use Rattle.route_lists.specs.declared.known.Known.{Known}
use Rattle.route_lists.specs.declared.step.Step.{Step}
use Rattle.route_lists.specs.declared.step.Step.TheVariants.{Add, End}
use Rattle.route_lists.specs.Shared.{taken_in, Adds}
use Rattle.route_lists.specs.Rule.{Sees}
use Rattle.route_lists.specs.Lists.{IsShown}
use Rattle.route_lists.proofs.RuleLemmas.{Grows}

-- two of the shared values are equal
abbrev pub IsSame : List Edit × Bool → List Edit × Bool → Type 0
IsSame s t = s ≡ t

pub when_ok : {A E : Type 0} (P Q : Type 0) (r : Result A E) → MatchResult r (λ _. P) (λ _. Q) → IsOk r → P
when_ok P Q (Ok a) is ok = is
when_ok P Q (Err e) is ok = absurd (false≢true ok)

begins_taken : (s : List Edit × Bool) (step : Step) → IsPrefix s.0 (taken_in s step).0
begins_taken s (Add a) = elim (nat_lt (length s.0) 10000) as (λ b. IsPrefix s.0 (cond b (s.0 ++ a.edit ∷ [], s.1) s).0) [ true ↦ prefix-append s.0 (a.edit ∷ []) | false ↦ prefix_refl s.0 ]
begins_taken s End = prefix_refl s.0

-- where it hasn't ended the list only grows
pub grows_by : (s s' : List Edit × Bool) (step : Step) → s.1 ≡ false → s' ≡ taken_in s step → Grows s.0 s.1 s'.0 s'.1
grows_by s s' step unended is = record {
  more = subst (λ z. IsPrefix s.0 z.0) (sym is) (begins_taken s step);
  stands = λ t. absurd (false≢true (sym unended ∙ t));
}

pub is_alone : (before after : List Step) (step : Step) → after ≡ before ++ step ∷ [] → before ≡ [] → after ≡ step ∷ []
is_alone before after step longer none = longer ∙ ap (λ l. l ++ step ∷ []) none

-- one step was pending, and is taken in
pub taken_alone : (s s' : List Edit × Bool) (pending : List Step) (step : Step) → pending ≡ step ∷ [] → IsSame s' (fold taken_in s pending) → IsSame s' (taken_in s step)
taken_alone s s' pending step alone is = is ∙ ap (fold taken_in s) alone

-- ---- the writer's edition goes with the list

accepted_is : (old new : EditionState) (edit : Edit) (answer : Result ℕ Refusal) → IsOk (apply (state_of old) edit) → Applies old edit answer new → (length old.edits < 10000) × (new.edits ≡ old.edits ++ edit ∷ []) × (new.ended ≡ old.ended)
accepted_is old new edit (Ok number) ok a = (lt_of_not-le (λ full. false≢true (subst IsOk (refused_full (state_of old) edit full) ok)), a.2, a.3)
accepted_is old new edit (Err why) ok a = absurd (false≢true (subst IsOk a.0 ok))

pub add_is : (old new : EditionState) (edit : Edit) (step : Step) (answer : Result ℕ Refusal) → Adds edit step → IsOk (apply (state_of old) edit) → Applies old edit answer new → IsSame (taken_in (old.edits, old.ended) step) (new.edits, new.ended)
add_is old new edit (Add a) answer adds ok is =
    let it = accepted_is old new edit answer ok is in
    ap (λ b. cond b (old.edits ++ a.edit ∷ [], old.ended) (old.edits, old.ended)) (lt-ltb (length old.edits) 10000 it.0)
    ∙ (λ i. ((ap (λ x. old.edits ++ x ∷ []) adds ∙ sym it.1) i, sym it.2 i))
add_is old new edit End answer adds ok is = absurd adds

-- what is shown after a step that the edition goes with
pub shown_again : (edits : List Edit) (ended : Bool) (pending : List Step) (v w : Known) (e : EditionState) → IsSame (edits, ended) (e.edits, e.ended) → pending ≡ [] → Sees v edits ended w → IsShown edits ended pending w e
shown_again edits ended pending v w e is none sees = record {
  shown = (sym (ap (λ z. z.0) is), sym (ap (λ z. z.1) is));
  settled = none;
  known = (sym (ap (λ z. z.0) is) ∙ ap (λ z. z.seen) (sym sees.seen), sym (ap (λ z. z.1) is) ∙ ap (λ z. z.ended) (sym sees.seen));
}
