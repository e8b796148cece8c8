-- An edition that is reached by a history's edits, and how it goes on.
use Rattle.std.proofs.Common.{◌≡◌, ℕ, ◌+◌, ◌<◌, ◌≤◌, List, [], ◌∷◌, ◌++◌, length, take, drop, get_or, true≢false, sym, ap, subst, add-one, arith, ◌∙◌}
use Rattle.std.specs.Prelude.{Some, Result, Ok, Err, IsOk, slice_get, slice_index_or}
use Rattle.std.proofs.Math.Seq.{take-suc}
use Rattle.std.proofs.lemmas.List.{length-map, length-take-le, take-append-drop}
use Rattle.std.proofs.lemmas.Option.{slice_get-get_or, slice_get_within, get_or_from_slice_get}
use Rattle.session_model.specs.declared.session.Session.{Session}
use Rattle.session_model.specs.declared.edit.Edit.{Edit}
use Rattle.engine_model.specs.Edits.{generation, has_quit, playlist_edition, touches}
use Rattle.engine_model.specs.Editions as engine
use Rattle.engine_model.specs.Editions.{apply, edition}
use Rattle.engine_model.specs.Fixed.{fixed_of}
use Rattle.engine_model.specs.Refusals.{Refusal}
use Rattle.engine_laws.proofs.EditionLemmas.{edition_plays, edition_stays, quit_is}
use Rattle.engine_laws.proofs.FixedLemmas.{fixed_track}
use Rattle.engine_laws.proofs.NumberLemmas.{last_stays}
use Rattle.engine_laws.proofs.PlayedLemmas.{fixed_stands}
use Rattle.edition_log.specs.EditionState.{EditionState, IsEditionOf, IsOpen, state_of}
use Rattle.edit_history.specs.History.{HistoryState, IsHistoryOf}
use Rattle.journal_judge.specs.Judged.{IsAt}

pub at_place : (edits : List Edit) (k : ℕ) (edit : Edit) → k < length edits → edit ≡ get_or edits k edit → slice_get edits k ≡ Some edit
at_place edits k edit lt is = slice_get-get_or edits k edit lt ∙ ap (λ e. Some e) (sym is)

module _ (s : Session) (edits : List Edit) (k : ℕ) (e : EditionState) (at : IsAt s edits k e) where
  pub number_at : length e.edits ≡ k
  number_at = ap (λ es. length es) at.first ∙ length-take-le k edits at.within

  long : k ≤ length (take k edits)
  long = subst (λ n. k ≤ n) (sym (length-take-le k edits at.within)) (omega arith)

  pub state_at : state_of e ≡ edition s edits k
  state_at = at.edition_of.state ∙ ap (edition s e.edits) number_at ∙ ap (λ es. edition s es k) at.first
      ∙ sym (edition_stays s (take k edits) (drop k edits) k long) ∙ ap (λ es. edition s es k) (take-append-drop k edits)

  pub touched_at : (t : ℕ) → t < 32 → slice_index_or e.touched t 0 ≡ playlist_edition s edits t k
  touched_at t lt = at.edition_of.touched t lt ∙ ap (playlist_edition s e.edits t) number_at ∙ ap (λ es. playlist_edition s es t k) at.first
      ∙ sym (last_stays (touches s t) (take k edits) (drop k edits) k long) ∙ ap (λ es. playlist_edition s es t k) (take-append-drop k edits)

  -- as many tracks as the session
  pub tracks_at : length e.session.tracks.items ≡ length s.tracks.items
  tracks_at = sym (length-map e.session.tracks.items fixed_track) ∙ ap (λ x. length (fixed_of x.session).tracks) state_at
      ∙ ap (λ f. length f.tracks) (fixed_stands s edits k) ∙ length-map s.tracks.items fixed_track

  pub one_on : (edit : Edit) (new : EditionState) → slice_get edits k ≡ Some edit → new.edits ≡ e.edits ++ edit ∷ [] → new.ended ≡ e.ended → IsEditionOf s new → IsAt s edits (k + 1) new
  one_on edit new here more ended of = subst (λ n. IsAt s edits n new) (sym (add-one k)) record {
    edition_of = of;
    ended = ended ∙ at.ended;
    first = more ∙ ap (λ es. es ++ edit ∷ []) at.first ∙ ap (λ x. take k edits ++ x ∷ []) (sym (get_or_from_slice_get edits k edit edit here))
        ∙ sym (take-suc edits k edit (slice_get_within edits k edit here));
    within = let lt : k < length edits = slice_get_within edits k edit here in omega (arith, lt);
  }

module _ (s : Session) (h : HistoryState) (k : ℕ) (e : EditionState) (is : IsHistoryOf s h) (at : IsAt s h.edits k e) where
  pub quit_at : e.transport.quit ≡ has_quit h.edits k
  quit_at = ap (λ x. x.transport.quit) (state_at s h.edits k e at) ∙ quit_is s h.edits k is.accepted at.within

  pub generation_at : e.transport.generation ≡ generation h.edits k
  generation_at = ap (λ x. x.transport.generation) (state_at s h.edits k e at) ∙ (edition_plays s h.edits k 0 is.accepted at.within).0

  -- where an edit follows, it is open, and the edit isn't refused
  pub opens_at : (edit : Edit) → slice_get h.edits k ≡ Some edit → IsOpen e
  opens_at edit here = record { ended = at.ended; quit = ap (λ x. x.transport.quit) (state_at s h.edits k e at) ∙ is.accepted.unended k edit here }

  pub never_refused : (edit : Edit) (why : Refusal) → slice_get h.edits k ≡ Some edit → apply (state_of e) edit ≡ Err why → ⊥
  never_refused edit why here err = not_ok (apply (edition s h.edits k) edit) (sym (ap (λ x. apply x edit) (state_at s h.edits k e at)) ∙ err) (is.accepted.each k edit here)
    where
      not_ok : (r : Result engine.Edition Refusal) → r ≡ Err why → IsOk r → ⊥
      not_ok (Ok x) e ok = cc
      not_ok (Err x) e ok = true≢false (sym ok)
