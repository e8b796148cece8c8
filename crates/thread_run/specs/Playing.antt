-- What a play on threads says of its lines, and of patience and allowances.
use Rattle.std.specs.Prelude.{◌≡◌, ◌⊎◌, ◌≤◌, ℕ, true, false, List, [], ◌∷◌, ◌++◌, length, map, slice_get, Some}
use Rattle.std.specs.List.{list_all}
use Rattle.ses_io.specs.Outside.{SourceOutside, SinkOutside}
use Rattle.session_model.specs.declared.session.Session.{Session}
use Rattle.session_model.specs.declared.edit.Edit.{Edit}
use Rattle.engine_model.specs.Journal.{Entry}
use Rattle.engine_model.specs.Lines.{Line, Says, accepted_of}
use Rattle.engine_model.specs.Plain.{Do}
use Rattle.engine_model.specs.Replies.{Reply, AreReplies}
use Rattle.engine_model.specs.Truth.{looked, misses}
use Rattle.engine_model.specs.Waited.{AreGranted, Grants, are_allowed, are_waited}
use Rattle.piece_item.specs.Views.{ack_of}
use Rattle.read_ahead.specs.Items.{kinds}
use Rattle.control_desk.specs.GoesOn.{GoesOn}
use Rattle.control_desk.specs.State.{ControlState, parts_of}
use Rattle.cycle_grants.specs.Grants.{grant_of}
use Rattle.disk_ring.specs.Rings.{Joined, Whole}
use Rattle.run_rings.specs.declared.joining.TrackRings.{TrackRings}
use Rattle.run_world.specs.declared.finished.Finished.{Finished}
use Rattle.run_world.specs.declared.finished.Grant.{Grant}
use Rattle.run_world.specs.declared.opened.Opened.{Opened}
use Rattle.lead_worker.specs.Heard.{is_heard}
use Rattle.run_end.specs.Finished.{journal_of}
use Rattle.run_end.specs.Lines.{TakesItsLines, control_of}

-- ---- patience

-- the process was told of no ring of items that it is closed
abbrev pub NoneHasEnded : List TrackRings → Type 0
NoneHasEnded rings = (t : ℕ) (r : TrackRings) → slice_get rings t ≡ Some r → r.plays.ended ≡ false

-- **Each piece that wasn't there, and didn't stand behind a held item, has so many looks of its own**, of which the last one is noted; said only
-- where the process was told of no ring of items that it is closed.
abbrev pub WaitsForItsPieces : ℕ → Session → List Edit → List Entry → List TrackRings → Type 0
WaitsForItsPieces patience s edits journal rings = NoneHasEnded rings → (t : ℕ) (r : TrackRings) → slice_get rings t ≡ Some r →
    are_waited patience (looked s.depth (kinds r.plays.sent) (misses edits t journal)) r.plays.tails ≡ true

-- ---- allowances

-- the ring of grants, as the definitions of the engine have it
abbrev pub grants_of : Joined Grant → Grants
grants_of r = record { sent = map grant_of r.sent; received = length r.received; tails = r.tails; heads = r.heads }

module _ {M I C W O : Type 0} where
  -- **The cycles were made as control allowed them.**
  pub record MakesCyclesAsAllowed (patience : ℕ) (o : Opened M I C W O) (f : Finished M I C W O) : Type 0 where
    -- no more than were asked for
    pub most : length (journal_of f) ≤ o.cycles
    -- the ring of grants, of the session's depth, which is never closed: what was received are the first of those that were sent
    pub ring : Joined Grant
    pub is : f.grants ≡ Some ring
    pub depth : ring.depth ≡ o.edition.session.depth
    pub whole : Whole ring
    pub open_still : ring.closed ≡ false
    -- each entry was allowed by a grant that was received, and is no older than it, up to the least number of grants that was noted so often
    -- as patience says
    pub allowed : are_allowed patience o.cycles (grants_of ring) (journal_of f) ≡ true

  -- **The grants are those that these lines ask for**, in their order, and all cycles at last; or those before one that found the ring full.
  pub record GrantsItsLines (o : Opened M I C W O) (lines : List Line) (f : Finished M I C W O) : Type 0 where
    pub ring : Joined Grant
    pub is : f.grants ≡ Some ring
    pub granted : AreGranted o.edition.session o.cycles f.edits.items lines (grants_of ring)
    -- where some were left out control was told, by the end, that no acknowledgement comes any more, and so has taken them all
    pub left_out : ¬ (granted.rest ≡ []) → f.acks.ended ≡ true

  -- ---- lines

  -- **Whatever was wanted**: these lines were taken and answered, and one edit's besides where there was no memory to publish it.
  pub record SaysItsLines (source : SourceOutside C) (sink : SinkOutside O) (o : Opened M I C W O) (lines unsaid : List Line) (replies : List Reply) (f : Finished M I C W O) : Type 0 where
    -- control as it ended: this is what it leaves
    pub control : ControlState C O
    pub goes : GoesOn source sink (control_of o.world.control o.world.out o.script) (lines ++ unsaid) replies control
    pub parts : parts_of control ≡ record { source = f.world.control; out = f.world.out; read_failed = f.faults.control; write_failed = f.faults.out; long = f.faults.long }
    pub none : f.faults.memory ≡ false → unsaid ≡ []
    pub one : (unsaid ≡ []) ⊎ ((edit : Edit) × (unsaid ≡ Says (Do edit) ∷ []))
    -- edits and replies are those of the lines
    pub edits : f.edits.items ≡ accepted_of o.edition.session lines
    pub answered : AreReplies o.edition.session [] lines replies
    -- and what was answered to a sync is true of the acknowledgements that control took by the end; where none has it settled, none comes any more
    pub heard : list_all (is_heard (map ack_of f.acks.received) f.acks.ended) replies ≡ true

  -- **A play on threads goes by its lines**, with patience and allowances.
  pub record PlaysItsLines (patience : ℕ) (source : SourceOutside C) (sink : SinkOutside O) (o : Opened M I C W O) (f : Finished M I C W O) : Type 0 where
    -- the lines that were taken and answered, and one that had no memory; and what was answered, the first reply first
    pub lines : List Line
    pub unsaid : List Line
    pub replies : List Reply
    pub says : SaysItsLines source sink o lines unsaid replies f
    pub allowed : MakesCyclesAsAllowed patience o f
    pub granted : GrantsItsLines o lines f
    -- where no want of memory is noted: those that an accepted quit has left
    pub left : List Line
    pub takes : f.faults.memory ≡ false → TakesItsLines source sink o lines left replies f
    pub waits : f.faults.memory ≡ false → WaitsForItsPieces patience o.edition.session f.edits.items (journal_of f) f.rings.items

  -- **where no want of memory is noted**
  abbrev pub IfEnough : (Finished M I C W O → Type 0) → Finished M I C W O → Type 0
  IfEnough P f = f.faults.memory ≡ false → P f
