-- An edit is published and answered, and where control stands then.
use Rattle.std.proofs.Common.{◌≡◌, ℕ, List, length, refl, sym, ap, subst, ◌∙◌}
use Rattle.std.specs.Prelude.{Bool, true, false, if◌then◌else◌, Result, Ok, Err}
use Rattle.std.proofs.lemmas.Bool.{false≢true}
use Rattle.session_model.specs.declared.session.Session.{Session}
use Rattle.session_model.specs.declared.edit.Edit.{Edit}
use Rattle.engine_model.specs.Edits.{has_quit, is_quit}
use Rattle.engine_model.specs.Editions.{apply, edition}
use Rattle.machine_laws.proofs.CarryLemmas.{quit_after}
use Rattle.edit_resolve.specs.declared.reason.Refusal.{Refusal}
use Rattle.edition_log.specs.EditionState.{EditionState, IsEditionOf, IsOpen}
use Rattle.edition_log.specs.Steps.{Applies}
use Rattle.edition_log.proofs.PlayLaws.{editions_play_their_places}
use Rattle.control_desk.specs.declared.standing.End.TheVariants.{Quit}
use Rattle.control_desk.specs.Laws.{IsAnswer}
use Rattle.control_desk.specs.Standing as desk
use Rattle.control_desk.specs.Standing.{Awaits, Ended, Ready, Standing, after_edit, cut_off, is_ended, read_failed}
use Rattle.control_letter.specs.Letter.{edits_with}

-- an edition that hasn't quit is open
pub is_open : (s : Session) (e : EditionState) → IsEditionOf s e → e.ended ≡ false → has_quit e.edits (length e.edits) ≡ false → IsOpen e
is_open s e is ended unquit = record { ended = ended; quit = (editions_play_their_places s e is).quit ∙ unquit }

-- what is answered is the edition's answer,
pub is_answer : (s : Session) (old new : EditionState) (edit : Edit) (answer : Result ℕ Refusal) → IsEditionOf s old → Applies old edit answer new → IsAnswer (apply (edition s old.edits (length old.edits)) edit) answer
is_answer s old new edit (Ok number) is applies = subst (λ m. IsAnswer m (Ok number)) (sym applies.0 ∙ ap (λ z. apply z edit) is.state) (sym applies.1)
is_answer s old new edit (Err why) is applies = subst (λ m. IsAnswer m (Err why)) (sym applies.0 ∙ ap (λ z. apply z edit) is.state) refl

-- and the edits are with it or without
pub edits_are : (old new : EditionState) (edit : Edit) (answer : Result ℕ Refusal) → Applies old edit answer new → new.edits ≡ edits_with edit answer old.edits
edits_are old new edit (Ok number) applies = applies.2
edits_are old new edit (Err why) applies = ap (λ (e : EditionState). e.edits) applies.1

-- ---- where control stands

-- where it hasn't ended no read of it has failed
pub unread_yet : (st : Standing) → is_ended st ≡ false → read_failed st ≡ false
unread_yet Ready e = refl
unread_yet (Awaits awaited) e = refl
unread_yet (Ended why) e = absurd (false≢true (sym e))

-- a write that fails leaves it so whether it has quit,
pub quit_cut : (fault : Bool) (st : Standing) → desk.has_quit (cut_off fault st) ≡ desk.has_quit st
quit_cut true st = refl
quit_cut false st = refl

-- which it has once an edit that quits is accepted
pub edit_quits : (edits : List Edit) (edit : Edit) (answer : Result ℕ Refusal) → has_quit edits (length edits) ≡ false →
    desk.has_quit (after_edit edit answer) ≡ has_quit (edits_with edit answer edits) (length (edits_with edit answer edits))
edit_quits edits edit (Err why) unquit = sym unquit
edit_quits edits edit (Ok number) unquit = by (is_quit edit) ∙ ap (λ b. if is_quit edit then true else b) (sym unquit) ∙ sym (quit_after edits edit)
  where
    by : (b : Bool) → desk.has_quit (if b then Ended Quit else Ready) ≡ (if b then true else false)
    by true = refl
    by false = refl
