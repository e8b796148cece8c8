-- What the butler's ends are told when they meet the other ends of their rings.
use Rattle.std.specs.Prelude.{◌≡◌, ℕ, length, slice_get, Some}
use Rattle.disk_ring.specs.Sender.{Sender}
use Rattle.disk_ring.specs.Receiver.{Receiver}
use Rattle.piece_item.specs.declared.item.Item.{Item}
use Rattle.piece_item.specs.declared.take_block.TakeBlock.{TakeBlock}
use Rattle.piece_item.specs.declared.butler_ends.ButlerEnds.{ButlerEnds}

-- the ends changed only in what they were told
pub record AreTold (old new : ButlerEnds) : Type 0 where
  pub many : length new.sends.items ≡ length old.sends.items
  -- of each track the number received of what was sent
  pub sends : (t : ℕ) (d f : Sender Item) → slice_get old.sends.items t ≡ Some d → slice_get new.sends.items t ≡ Some f → f ≡ record d { got = f.got }
  pub captures : length new.takes.items ≡ length old.takes.items
  -- the blocks that were put
  pub takes : (t : ℕ) (c b : Receiver TakeBlock) → slice_get old.takes.items t ≡ Some c → slice_get new.takes.items t ≡ Some b →
      b ≡ record c { heard = b.heard; over = b.over }
  -- and the acknowledgements
  pub acks : new.acks ≡ record old.acks { heard = new.acks.heard; over = new.acks.over }
