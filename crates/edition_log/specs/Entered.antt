-- What no worker holds and its contracts speak of.
use Rattle.std.specs.Prelude.{◌≡◌, ℕ, List}
use Rattle.session_model.specs.declared.session.Session.{Session}
use Rattle.session_model.specs.declared.edit.Edit.{Edit}
use Rattle.engine_model.specs.Editions.{edition}
use Rattle.edition_log.specs.EditionState.{EditionState, IsEditionOf}

-- the session that a run opened, and the edits of it that a worker entered last
pub record Entered : Type 0 where
  pub session : Session
  pub edits : List Edit

-- It is the state of the opening session after its edits, which have left the session as it was opened.
pub record IsAsOpened (opening : Session) (e : EditionState) : Type 0 where
  pub edition_of : IsEditionOf opening e
  -- after each of them
  pub stands : (k : ℕ) → (edition opening e.edits k).session ≡ opening
