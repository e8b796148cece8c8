-- Edits of the transport leave the session as it was opened.
use Rattle.std.proofs.Common.{◌≡◌, ℕ, zero, suc, ◌≤◌, List, [], ◌∷◌, ◌++◌, length, refl, ap, sym, ◌∙◌, arith, inl, inr}
use Rattle.std.specs.Prelude.{◌⊎◌, Some, None, Result, Ok, Err, slice_get}
use Rattle.std.proofs.lemmas.Bool.{cases_lt}
use Rattle.session_model.specs.declared.session.Session.{Session}
use Rattle.session_model.specs.declared.edit.Edit.{Edit}
use Rattle.session_model.specs.declared.edit.Edit.TheVariants.{Roll, Locate}
use Rattle.engine_model.specs.Refusals.{Far, refused_if}
use Rattle.engine_model.specs.Changes.{TransportOnly, made}
use Rattle.engine_model.specs.Commands.{change_of, is_far}
use Rattle.engine_model.specs.Editions.{Edition, after_one, apply, edition, taken_up}
use Rattle.engine_laws.proofs.CheckedLemmas.{after_check, where_ok}
use Rattle.engine_laws.proofs.EditionLemmas.{edition_stays}
use Rattle.engine_laws.proofs.SessionLemmas.{session_after}
use Rattle.edit_resolve.specs.declared.reason.Refusal.{Refusal}
use Rattle.edition_log.specs.EditionState.{EditionState, IsEditionOf}
use Rattle.edition_log.specs.Entered.{IsAsOpened}
use Rattle.edition_log.specs.Steps.{Applies}
use Rattle.edition_log.specs.Laws.{IsOfTransport, TransportEditsLeaveTheSession}

-- ---- edits of the transport

pub roll_is_of_transport : (s : Session) → IsOfTransport s Roll
roll_is_of_transport s wrap c e = where_ok (λ x. x ≡ TransportOnly) (change_of s wrap Roll) c refl e

pub locate_is_of_transport : (s : Session) (to : ℕ) → IsOfTransport s (Locate to)
locate_is_of_transport s to wrap c e = where_ok (λ x. x ≡ TransportOnly) (change_of s wrap (Locate to)) c (after_check _ (refused_if (is_far to) (Far to)) _ (λ y kept. refl)) e

-- ---- lists of edits

-- before the first edit
none_leaves : (s : Session) (k : ℕ) → (edition s [] k).session ≡ s
none_leaves s zero = refl
none_leaves s (suc k) = none_leaves s k

-- one edit
one_leaves : (s : Session) (e : Edition) (edit : Edit) → IsOfTransport s edit → e.session ≡ s → (taken_up e (apply e edit)).session ≡ s
one_leaves s e edit only same = session_after (λ z. z ≡ s) e edit same
    (λ c is. ap (made e.session) (only e.transport.wrap c (ap (λ z. change_of z e.transport.wrap edit) (sym same) ∙ is)) ∙ same)

-- behind a list's end stands the new edit, or none
new_or_none : (edits : List Edit) (edit : Edit) (k : ℕ) → length edits ≤ k → (slice_get (edits ++ edit ∷ []) k ≡ Some edit) ⊎ (slice_get (edits ++ edit ∷ []) k ≡ None)
new_or_none [] edit zero le = inl refl
new_or_none [] edit (suc k) le = inr refl
new_or_none (x ∷ xs) edit zero le = absurd (omega arith)
new_or_none (x ∷ xs) edit (suc k) le = new_or_none xs edit k (omega arith)

pub transport_edits_leave_the_session : TransportEditsLeaveTheSession
transport_edits_leave_the_session s edits edit stands only zero = refl
transport_edits_leave_the_session s edits edit stands only (suc k) = let before = transport_edits_leave_the_session s edits edit stands only k in let more = edits ++ edit ∷ [] in
    elim (cases_lt k (length edits)) [
      | inl lt ↦ ap (λ e. e.session) (edition_stays s edits (edit ∷ []) (suc k) (omega arith)) ∙ stands (suc k)
      | inr ge ↦ elim (new_or_none edits edit k ge) [
        | inl new ↦ ap (λ o. (after_one (edition s more k) o).session) new ∙ one_leaves s (edition s more k) edit only before
        | inr none ↦ ap (λ o. (after_one (edition s more k) o).session) none ∙ before
      ]
    ]

-- ---- editions

pub as_opened_first : (s : Session) (e : EditionState) → IsEditionOf s e → e.edits ≡ [] → IsAsOpened s e
as_opened_first s e is none = record { edition_of = is; stands = λ k. ap (λ es. (edition s es k).session) none ∙ none_leaves s k }

-- whatever is answered of an edit of the transport
pub stays_as_opened : (s : Session) (old : EditionState) (edit : Edit) (answer : Result ℕ Refusal) (new : EditionState) → IsOfTransport s edit → Applies old edit answer new → IsEditionOf s new →
    IsAsOpened s old → IsAsOpened s new
stays_as_opened s old edit (Ok number) new only step now was = record {
  edition_of = now;
  stands = λ k. ap (λ es. (edition s es k).session) step.2 ∙ transport_edits_leave_the_session s old.edits edit was.stands only k;
}
stays_as_opened s old edit (Err why) new only step now was = record { edition_of = now; stands = λ k. ap (λ e. (edition s e.edits k).session) step.1 ∙ was.stands k }
