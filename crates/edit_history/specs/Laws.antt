-- What the changes of a history say of its editions.
use Rattle.std.specs.Prelude.{◌≡◌, ◌↔◌, ℕ, suc, true, Some, slice_get}
use Rattle.session_model.specs.declared.session.Session.{Session}
use Rattle.session_model.specs.declared.edit.Edit.{Edit}
use Rattle.session_model.specs.Valid.{IsValid}
use Rattle.engine_model.specs.Changes.{Change}
use Rattle.engine_model.specs.Edits.{touches, playlist_edition}
use Rattle.engine_model.specs.Editions.{changed, edition}
use Rattle.session_change.specs.Change.{list_of}
use Rattle.edit_history.specs.History.{HistoryState, IsHistoryOf}

-- Edit k of the history, counted from 0, and its change.
pub record StandsAt (h : HistoryState) (k : ℕ) (edit : Edit) (change : Change) : Type 0 where
  pub here : slice_get h.edits k ≡ Some edit
  pub its : slice_get h.changes k ≡ Some change

-- Each edit makes the next edition, by its change.
abbrev pub EachChangeMakesTheNextEdition : Type 0
EachChangeMakesTheNextEdition = (s : Session) (h : HistoryState) (k : ℕ) (edit : Edit) (change : Change) → IsHistoryOf s h → StandsAt h k edit change →
    edition s h.edits (suc k) ≡ changed (edition s h.edits k) edit change

-- Whether the change is of track t's playlist, and what playlist edition the track then has.
pub record IsOfPlaylist (s : Session) (h : HistoryState) (k : ℕ) (edit : Edit) (change : Change) (t : ℕ) : Type 0 where
  pub touched : (list_of change ≡ Some t) ↔ (touches s t edit ≡ true)
  pub its : list_of change ≡ Some t → playlist_edition s h.edits t (suc k) ≡ suc k
  pub others : (list_of change ≡ Some t → ⊥) → playlist_edition s h.edits t (suc k) ≡ playlist_edition s h.edits t k

-- An edit is a command on a track's playlist exactly where its change is of it, and only there the playlist edition is its own.
abbrev pub EachChangeIsOfTheTouchedPlaylist : Type 0
EachChangeIsOfTheTouchedPlaylist = (s : Session) (h : HistoryState) (k : ℕ) (edit : Edit) (change : Change) → IsValid s → (t : ℕ) → IsHistoryOf s h →
    StandsAt h k edit change → IsOfPlaylist s h k edit change t
