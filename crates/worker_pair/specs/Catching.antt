-- When an edition may take in what a newer one has beyond it.
use Rattle.std.specs.Prelude.{◌≡◌, true, false}
use Rattle.std.specs.List.{list_all}
use mathlib.Core.List.{IsPrefix}
use Rattle.session_model.specs.declared.session.Session.{Session}
use Rattle.engine_model.specs.Edits.{keeps_forms}
use Rattle.edition_log.specs.EditionState.{EditionState as Edition, IsEditionOf}

pub record MayCatchUp (s : Session) (e newest : Edition) : Type 0 where
  -- both are editions of the session, and the newer goes on from the other
  pub edition_of : IsEditionOf s e
  pub newest_of : IsEditionOf s newest
  pub begins : IsPrefix e.edits newest.edits
  -- an edit may follow, and all edits are as control lines have them
  pub not_ended : e.ended ≡ false
  pub unended : e.transport.quit ≡ false
  pub forms : list_all keeps_forms newest.edits ≡ true
