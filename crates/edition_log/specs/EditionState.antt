-- What contracts see of an edition, and when it is the state of an opening session after its edits.
use Rattle.std.specs.Prelude.{◌≡◌, ℕ, ◌<◌, ◌≤◌, Bool, false, List, length, slice_index_or}
use Rattle.session_model.specs.declared.session.Session.{Session}
use Rattle.session_model.specs.declared.edit.Edit.{Edit}
use Rattle.session_model.specs.Valid.{IsValid}
use Rattle.session_model.specs.Views.{routes_of}
use Rattle.engine_model.specs.Edits.{playlist_edition}
use Rattle.engine_model.specs.MayMake.{KeepsItsTypes}
use Rattle.engine_model.specs.Editions as engine
use Rattle.engine_model.specs.Editions.{edition, IsAccepted}
use Rattle.locate_loop.specs.declared.transport.Transport.{Transport}
use Rattle.locate_loop.specs.Transport.{transport_of, IsTransport}
use Rattle.route_graph.specs.Order.{IsOrder}

pub record EditionState : Type 0 where
  pub session : Session
  pub transport : Transport
  -- the routes with feeders first
  pub order : List ℕ
  -- of each track the number of the last edit of its playlist, else 0
  pub touched : List ℕ
  pub edits : List Edit
  -- no edit follows
  pub ended : Bool

-- what every edition keeps
pub record IsEditionState (e : EditionState) : Type 0 where
  pub valid : IsValid e.session
  -- gains, lanes and playlists keep their limits
  pub types : KeepsItsTypes e.session
  pub transport : IsTransport e.transport
  pub order : IsOrder (routes_of e.session) e.order
  pub touched : length e.touched ≡ 32
  pub few : length e.edits ≤ 10000
  -- each generation was started by an edit
  pub counted : e.transport.generation ≤ length e.edits

-- as the definitions of the engine have it
abbrev pub state_of : EditionState → engine.Edition
state_of e = record { session = e.session; transport = transport_of e.transport; number = length e.edits }

-- It is the state of the opening session after its edits, each of which was accepted.
pub record IsEditionOf (opening : Session) (e : EditionState) : Type 0 where
  pub state : state_of e ≡ edition opening e.edits (length e.edits)
  pub accepted : IsAccepted opening e.edits
  pub touched : (t : ℕ) → t < 32 → slice_index_or e.touched t 0 ≡ playlist_edition opening e.edits t (length e.edits)

-- an edit may follow: it neither ended nor quit
pub record IsOpen (e : EditionState) : Type 0 where
  pub ended : e.ended ≡ false
  pub quit : e.transport.quit ≡ false
