-- The two ends of each ring have met: each knows all that the other did.
use Rattle.std.specs.Prelude.{◌≡◌, ℕ, List, length, slice_get, Some}
use Rattle.disk_ring.specs.Sender.{Sender}
use Rattle.disk_ring.specs.Receiver.{Receiver}
use Rattle.disk_ring.specs.Rings.{Passed}
use Rattle.piece_item.specs.declared.butler_ends.ButlerEnds.{ButlerEnds}
use Rattle.process_ends.specs.declared.ends.ProcessEnds.{ProcessEnds}

-- two ends of a ring know all of each other
pub record KnowEachOther {T : Type 0} (a : Sender T) (b : Receiver T) : Type 0 where
  -- how many items were received, and which were sent
  pub got : a.got ≡ length b.received
  pub heard : b.heard ≡ a.sent
  -- whether the ring was closed
  pub over : b.over ≡ a.closed
  -- what was received are the first of the items sent, and no more wait than there are boxes
  pub depth : b.depth ≡ a.depth
  pub passed : Passed a.depth a.sent a.closed b.received b.ended

abbrev pub AllKnow : {T : Type 0} → List (Sender T) → List (Receiver T) → Type 0
AllKnow {T} senders receivers = (t : ℕ) (a : Sender T) (b : Receiver T) → slice_get senders t ≡ Some a → slice_get receivers t ≡ Some b → KnowEachOther a b

-- those of the process and those of the butler do
pub record HaveMet (ours : ProcessEnds) (theirs : ButlerEnds) : Type 0 where
  pub plays : AllKnow theirs.sends.items ours.plays.items
  pub takes : AllKnow ours.takes.items theirs.takes.items
  pub acks : KnowEachOther ours.to_butler theirs.acks
