-- What contracts see of the writer and of a reader.
use Rattle.std.specs.Prelude.{◌≡◌, List, [], Bool, true}
use mathlib.Core.List.{IsPrefix}
use Rattle.atomic_table.specs.Seated.{TableId}
use Rattle.session_model.specs.declared.session.Session.{Session}
use Rattle.session_model.specs.declared.edit.Edit.{Edit}
use Rattle.edition_log.specs.EditionState.{EditionState, IsEditionOf}
use Rattle.route_lists.specs.declared.known.Known.{Known}
use Rattle.route_lists.specs.declared.step.Step.{Step}

-- the writer: its edition's edits are the published list, which ended where the edition did
pub record Published : Type 0 where
  pub edition : EditionState
  -- that of the readers which were made with it
  pub table : TableId

-- a reader: of two editions that take turns one is seen, and the spare one is brought up next
pub record Reading : Type 0 where
  pub edition : EditionState
  pub spare : EditionState
  -- the list that it was told of, and whether with its end
  pub told : List Edit
  pub told_end : Bool
  -- that of the writer with which it was made
  pub table : TableId

-- both editions are states of this opening session
abbrev pub IsReaderOf : Session → Reading → Type 0
IsReaderOf s r = IsEditionOf s r.edition × IsEditionOf s r.spare

-- The edition is the state after a beginning of what was seen of the list; where it ended, that is all of it.
pub record Follows (edits : List Edit) (ended : Bool) (e : EditionState) : Type 0 where
  pub begins : IsPrefix e.edits edits
  pub stands : e.ended ≡ true → (ended ≡ true) × (edits ≡ e.edits)

-- the edition is the state after the whole list
abbrev pub IsAt : List Edit → Bool → EditionState → Type 0
IsAt edits ended e = (e.edits ≡ edits) × (e.ended ≡ ended)

-- The edition is that of the list which is shown, nothing waits to be shown, and the writer knows just that.
pub record IsShown (edits : List Edit) (ended : Bool) (pending : List Step) (v : Known) (e : EditionState) : Type 0 where
  pub shown : IsAt edits ended e
  pub settled : pending ≡ []
  pub known : IsAt v.seen v.ended e

-- Both editions of a reader follow what it has seen.
pub record IsKept (v : Known) (edition spare : EditionState) : Type 0 where
  pub seen : Follows v.seen v.ended edition
  pub behind : Follows v.seen v.ended spare
