use Rattle.std.proofs.Common.{◌≡◌, length}
use Rattle.session_model.specs.declared.session.Session.{Session}
use Rattle.edition_log.specs.EditionState.{IsEditionOf}
use Rattle.route_lists.specs.Lists.{Follows}
use Rattle.route_lists.proofs.catching_up.catch_up.Given as goal

abbrev pub invariant-loop-at : goal.invariant-loop-at
invariant-loop-at l = (Follows l.shelf.edits.items l.shelf.ended l.edition) × (length l.edition.edits ≡ l.at)
    × ((s : Session) → IsEditionOf s l.initial.edition → IsEditionOf s l.edition)
