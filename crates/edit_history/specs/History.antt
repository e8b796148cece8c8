-- The edits of a run with what each changes, and the first edit that doesn't stand.
use Rattle.std.specs.Prelude.{◌≡◌, ◌⊎◌, ℕ, suc, ◌≤◌, true, false, List, ◌∷◌, [], ◌++◌, length, take, Option, Some, None, slice_get, Result, Ok, Err, IsErr, All, IsTrue}
use Rattle.session_model.specs.declared.session.Session.{Session}
use Rattle.session_model.specs.declared.edit.Edit.{Edit}
use Rattle.engine_model.specs.Changes.{Change}
use Rattle.engine_model.specs.Commands.{change_of}
use Rattle.engine_model.specs.Edits.{keeps_forms}
use Rattle.engine_model.specs.Editions.{Edition, apply, edition, IsAccepted}
use Rattle.locate_loop.specs.Transport.{transport_of}
use Rattle.session_change.specs.declared.change.Change as code
use Rattle.session_change.specs.Change.{change_seen}
use Rattle.edition_log.specs.EditionState.{EditionState, state_of}
use Rattle.edit_history.specs.declared.history.HistoryRefusal.{HistoryRefusal}
use Rattle.edit_history.specs.declared.history.HistoryRefusal.TheVariants.{Refused, NoMemory}

pub record HistoryState : Type 0 where
  pub edits : List Edit
  -- what each edit changes of the session
  pub changes : List Change

-- They are edits of a session, one accepted after the other, none after a quit, each with its change.
pub record IsHistoryOf (s : Session) (h : HistoryState) : Type 0 where
  pub accepted : IsAccepted s h.edits
  -- as the forms of control lines have them
  pub forms : All (λ e. IsTrue (keeps_forms e)) h.edits
  pub few : length h.edits ≤ 10000
  pub many : length h.changes ≡ length h.edits
  pub each : (k : ℕ) (edit : Edit) (change : Change) → slice_get h.edits k ≡ Some edit → slice_get h.changes k ≡ Some change →
      change_of (edition s h.edits k).session (edition s h.edits k).transport.wrap edit ≡ Ok change

-- the edit doesn't stand behind an edition: that has quit, or it refuses the edit
abbrev pub FallsAt : Edition → Edit → Type 0
FallsAt e edit = (e.transport.quit ≡ true) ⊎ IsErr (apply e edit)

-- Edit n, counted from 1, is the first that doesn't stand.
pub record IsFirstRefused (s : Session) (edits : List Edit) (n : ℕ) : Type 0 where
  -- its place, counted from 0
  pub place : ℕ
  pub number : n ≡ suc place
  pub edit : Edit
  pub here : slice_get edits place ≡ Some edit
  -- those before it are accepted
  pub before : IsAccepted s (take place edits)
  pub falls : FallsAt (edition s edits place) edit

-- A refusal names the first edit that doesn't stand. Want of memory says nothing.
abbrev pub NamesFirst : {A : Type 0} → Session → List Edit → Result A HistoryRefusal → Type 0
NamesFirst s edits (Ok h) = Unit {0}
NamesFirst s edits (Err (Refused n)) = IsFirstRefused s edits n
NamesFirst s edits (Err NoMemory) = Unit {0}

-- What taking an edit in leaves: the next edition and the change that made it, or what was, where the edit doesn't stand.
pub record IsTaken (old : EditionState) (edit : Edit) (change : Change) (new : EditionState) : Type 0 where
  pub goes_on : old.transport.quit ≡ false
  pub is_change : change_of old.session (transport_of old.transport).wrap edit ≡ Ok change
  pub edits : new.edits ≡ old.edits ++ edit ∷ []
  pub ended : new.ended ≡ false

pub record IsLeft (old : EditionState) (edit : Edit) (new : EditionState) : Type 0 where
  pub falls : FallsAt (state_of old) edit
  pub same : new ≡ old

abbrev pub Takes : EditionState → Edit → Option code.Change → EditionState → Type 0
Takes old edit (Some change) new = IsTaken old edit (change_seen change) new
Takes old edit None new = IsLeft old edit new
