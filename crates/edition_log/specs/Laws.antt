-- What is said of an edition.
use Rattle.std.specs.Prelude.{◌≡◌, ℕ, List, [], ◌∷◌, ◌++◌, length, Option, Ok}
use Rattle.session_model.specs.declared.session.Session.{Session}
use Rattle.session_model.specs.declared.edit.Edit.{Edit}
use Rattle.engine_model.specs.Changes.{Change, TransportOnly}
use Rattle.engine_model.specs.Commands.{change_of}
use Rattle.engine_model.specs.Edits.{generation, has_quit}
use Rattle.engine_model.specs.Editions.{edition}
use Rattle.engine_model.specs.Transport.{Wrap, place_of, place}
use Rattle.locate_loop.specs.Transport.{transport_of}
use Rattle.edition_log.specs.EditionState.{EditionState, IsEditionOf}

pub record PlaysItsPlaces (e : EditionState) : Type 0 where
  pub counted : e.transport.generation ≡ generation e.edits (length e.edits)
  pub places : (n : ℕ) → place_of (transport_of e.transport) n ≡ place e.edits (generation e.edits (length e.edits)) n
  pub quit : e.transport.quit ≡ has_quit e.edits (length e.edits)

abbrev pub EditionsPlayTheirPlaces : Type 0
EditionsPlayTheirPlaces = (s : Session) (e : EditionState) → IsEditionOf s e → PlaysItsPlaces e

-- the edit is of the transport: where it is accepted in this session, it changes nothing of it
abbrev pub IsOfTransport : Session → Edit → Type 0
IsOfTransport s edit = (wrap : Option Wrap) (c : Change) → change_of s wrap edit ≡ Ok c → c ≡ TransportOnly

-- Where the edits have left the session as it was opened, they leave it so with one more that is of the transport.
abbrev pub TransportEditsLeaveTheSession : Type 0
TransportEditsLeaveTheSession = (s : Session) (edits : List Edit) (edit : Edit) → ((k : ℕ) → (edition s edits k).session ≡ s) → IsOfTransport s edit →
    (k : ℕ) → (edition s (edits ++ edit ∷ []) k).session ≡ s
