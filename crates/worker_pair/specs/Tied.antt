-- When a state of the core machine is that of the workers and their rings.
use Rattle.std.specs.Prelude.{◌≡◌, ℕ, ◌≤◌, false, length, map, reverse, slice_get, Some, None, All}
use Rattle.session_model.specs.declared.session.Session.{Session}
use Rattle.machine_model.specs.Core.{Captured, TrackState, AckRing, Core}
use Rattle.disk_ring.specs.Sender.{Sender}
use Rattle.disk_ring.specs.Receiver.{Receiver}
use Rattle.piece_item.specs.declared.item.Item.{Item}
use Rattle.piece_item.specs.declared.take_block.TakeBlock.{TakeBlock}
use Rattle.piece_item.specs.declared.ack.Ack.{Ack}
use Rattle.piece_item.specs.Views.{ack_of}
use Rattle.read_ahead.specs.Items.{kinds}
use Rattle.process_cycle.specs.ProcessState.{entries_of}
use Rattle.worker_pair.specs.declared.ending.Ending.{Ending}
use Rattle.worker_pair.specs.declared.pair.Pair.{Pair}

-- the take and the index of a block
abbrev pub captured_of : TakeBlock → Captured
captured_of b = record { take = b.take; index = b.index }

-- the two rings of a track, by their four ends
pub record IsTrackOf (x : TrackState) (d : Sender Item) (r : Receiver Item) (k : Sender TakeBlock) (f : Receiver TakeBlock) : Type 0 where
  -- what was sent, how much of it was received, and the looks that found nothing more
  pub sent : x.sent ≡ reverse (kinds d.sent)
  pub received : x.received ≡ length r.received
  pub tails : x.tails ≡ reverse r.tails
  -- what was captured, how much of it was flushed, and the blocks that found the ring full
  pub put : x.put ≡ reverse (map captured_of k.sent)
  pub flushed : x.flushed ≡ length f.received
  pub heads : x.heads ≡ reverse k.heads
  -- no capture is pending
  pub taking : x.taking ≡ None

module _ {V : Type 0} where
  -- The rings are those of this state, the butler has entered the edition that it says, and no call of the media has failed.
  pub record AreRingsOf (s : Session) (c : Core) (e : Ending V) : Type 0 where
    pub edits : c.edits ≡ e.edition.edits
    pub entered : c.entered ≡ e.butler.entered
    pub many : length c.tracks ≡ length s.tracks.items
    pub tracks : (t : ℕ) (x : TrackState) (d : Sender Item) (r : Receiver Item) (k : Sender TakeBlock) (f : Receiver TakeBlock) → slice_get c.tracks t ≡ Some x →
        slice_get e.butler.ends.sends.items t ≡ Some d → slice_get e.ends.plays.items t ≡ Some r → slice_get e.ends.takes.items t ≡ Some k →
        slice_get e.butler.ends.takes.items t ≡ Some f → IsTrackOf x d r k f
    -- the ring of acknowledgements to the butler
    pub acks : c.to_butler.sent ≡ reverse (map ack_of e.ends.to_butler.sent)
    pub taken : c.to_butler.taken ≡ length e.butler.ends.acks.received
    pub none_read : e.butler.hushed ≡ false
    pub none_written : e.butler.write_failed ≡ false

-- the workers without the process, but with its ends
abbrev pub rings_of : {V I W : Type 0} → Pair V I W → Ending V
rings_of p = record { edition = p.edition; butler = p.butler; ends = p.process.ends }

-- As far as its sender can tell no acknowledgement was taken from this ring: each head by which its `put` answered Full was 0, and no more was sent than there are boxes.
pub record IsUntaken (d : Sender Ack) : Type 0 where
  pub heads : All (λ h. h ≡ 0) d.heads
  pub room : length d.sent ≤ d.depth

-- The ring to control: control takes nothing from it, which its sender learns at the end.
pub record IsControlRing (ring : AckRing) (d : Sender Ack) : Type 0 where
  pub sent : IsUntaken d → ring.sent ≡ reverse (map ack_of d.sent)
  pub taken : ring.taken ≡ 0

-- **The state of the core machine that a pair is in.**
pub record IsTied {V I W : Type 0} (s : Session) (c : Core) (p : Pair V I W) : Type 0 where
  pub rings : AreRingsOf s c (rings_of p)
  pub entries : c.entries ≡ entries_of p.process
  -- the edition that the process entered, and whether a cycle is open in it
  pub playing : c.playing ≡ length p.playing.edits
  pub in_cycle : c.in_cycle ≡ p.in_cycle
  -- the ring of acknowledgements to control
  pub control : IsControlRing c.to_control p.process.ends.to_control
  -- no ring was told of more entries than there are
  pub told_butler : c.to_butler.told ≤ length c.entries
  pub told_control : c.to_control.told ≤ length c.entries
