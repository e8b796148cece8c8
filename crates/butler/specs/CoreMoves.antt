-- What of a state of the core machine a butler's ends stand for. In such a state a turn of one item makes the core machine's move.
use Rattle.std.specs.Prelude.{◌≡◌, ℕ, false, length, reverse, slice_get, Some}
use Rattle.session_model.specs.declared.session.Session.{Session}
use Rattle.session_model.specs.Valid.{IsValid}
use Rattle.machine_model.specs.Core.{TrackState, Core, acks_taken}
use Rattle.machine_model.specs.Letters as letters
use Rattle.edition_log.specs.EditionState.{EditionState as Edition}
use Rattle.disk_ring.specs.Sender.{Sender}
use Rattle.disk_ring.specs.Receiver.{Receiver}
use Rattle.piece_item.specs.declared.item.Item.{Item}
use Rattle.piece_item.specs.declared.take_block.TakeBlock.{TakeBlock}
use Rattle.read_ahead.specs.Items.{kinds}
use Rattle.butler.specs.Sends.{acks_of}
use Rattle.butler.specs.ButlerState.{ButlerState}
use Rattle.butler.specs.Moves.{first_move}

-- the two rings of a track as the core machine has them, where all ends had met
pub record IsTrackOf (s : Session) (x : TrackState) (d : Sender Item) (r : Receiver TakeBlock) : Type 0 where
  -- what was sent, and how much of it the process had received
  pub sent : x.sent ≡ reverse (kinds d.sent)
  pub received : x.received ≡ d.got
  pub depth : d.depth ≡ s.depth
  -- how many blocks were put, and how many of them were flushed
  pub put : length x.put ≡ length r.heard
  pub flushed : x.flushed ≡ length r.received

-- The state is that of the butler's ends as a turn begins, once it has entered its edition and taken its acknowledgements.
pub record IsCoreOf {V : Type 0} (s : Session) (e : Edition) (old new : ButlerState V) (c : Core) : Type 0 where
  -- the edits that were published are those that it entered
  pub edits : c.edits ≡ e.edits
  pub entered : c.entered ≡ length e.edits
  -- the acknowledgements that it took by then
  pub acks : acks_taken c.to_butler ≡ reverse (acks_of new.ends.acks.received)
  -- the rings of each track
  pub many : length c.tracks ≡ length old.ends.sends.items
  pub many_takes : length c.tracks ≡ length old.ends.takes.items
  pub each : (t : ℕ) (x : TrackState) (d : Sender Item) (r : Receiver TakeBlock) → slice_get c.tracks t ≡ Some x →
      slice_get old.ends.sends.items t ≡ Some d → slice_get old.ends.takes.items t ≡ Some r → IsTrackOf s x d r
  -- it sends still
  pub none_read : old.hushed ≡ false

-- The one move that the ends allow is the first that the core machine can make, or none where it can make none.
abbrev pub TheMoveIsTheCoreMachines : Type 0 → Type 0
TheMoveIsTheCoreMachines V = (s : Session) (e : Edition) (old new : ButlerState V) (c : Core) → IsValid s → IsCoreOf s e old new c →
    first_move s e old new ≡ letters.first_move s old.cycles c
