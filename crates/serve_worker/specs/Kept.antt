-- What a butler keeps of its ends over its turns: each is still that of its ring, and what went through it stands.
use Rattle.std.specs.Prelude.{◌≡◌, ℕ, ◌≤◌, true, length, slice_get, Some}
use mathlib.Core.List.{IsPrefix}
use Rattle.disk_ring.specs.Receiver.{Receiver, GoesOnOut}
use Rattle.disk_ring.specs.Sender.{Sender}
use Rattle.piece_item.specs.declared.butler_ends.ButlerEnds.{ButlerEnds}
use Rattle.piece_item.specs.declared.item.Item.{Item}
use Rattle.piece_item.specs.declared.take_block.TakeBlock.{TakeBlock}
use Rattle.butler.specs.ButlerState.{ButlerState}

pub record KeepsSending (a b : Sender Item) : Type 0 where
  -- the ring, its depth and its room stay
  pub ring : b.ring ≡ a.ring
  pub depth : b.depth ≡ a.depth
  pub room : b.room ≡ a.room
  -- what was sent stays sent, and each head that was answered stays told
  pub sent : IsPrefix a.sent b.sent
  pub heads : IsPrefix a.heads b.heads
  -- the number received that it knows of never falls
  pub got : a.got ≤ b.got
  -- once closed it stays so
  pub closed : a.closed ≡ true → b.closed ≡ true

pub record KeepsItsEnds (old new : ButlerEnds) : Type 0 where
  pub many_sends : length new.sends.items ≡ length old.sends.items
  pub sends : (t : ℕ) (a b : Sender Item) → slice_get old.sends.items t ≡ Some a → slice_get new.sends.items t ≡ Some b → KeepsSending a b
  pub many_takes : length new.takes.items ≡ length old.takes.items
  pub takes : (t : ℕ) (a b : Receiver TakeBlock) → slice_get old.takes.items t ≡ Some a → slice_get new.takes.items t ≡ Some b → GoesOnOut a b
  pub acks : GoesOnOut old.acks new.acks

-- its ends, the sources that were opened, how many cycles were asked, and what has failed
pub record KeepsButler {V : Type 0} (old new : ButlerState V) : Type 0 where
  pub ends : KeepsItsEnds old.ends new.ends
  pub opened : new.sources.opened ≡ old.sources.opened
  pub cycles : new.cycles ≡ old.cycles
  pub hushed : old.hushed ≡ true → new.hushed ≡ true
  pub write_failed : old.write_failed ≡ true → new.write_failed ≡ true
