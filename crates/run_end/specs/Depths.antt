-- How many boxes the rings have that the process sends takes and acknowledgements to control by. That of the ring to the butler is
-- among what a process keeps.
use Rattle.std.specs.Prelude.{◌≡◌, ℕ, slice_get, Some}
use Rattle.session_model.specs.declared.session.Session.{Session}
use Rattle.disk_ring.specs.Sender.{Sender}
use Rattle.piece_item.specs.declared.take_block.TakeBlock.{TakeBlock}
use Rattle.process_ends.specs.declared.ends.ProcessEnds.{ProcessEnds}

-- Each capture ring and the ring of acknowledgements to control have the session's depth.
pub record HaveDepths (s : Session) (ends : ProcessEnds) : Type 0 where
  pub takes : (t : ℕ) (d : Sender TakeBlock) → slice_get ends.takes.items t ≡ Some d → d.depth ≡ s.depth
  pub to_control : ends.to_control.depth ≡ s.depth
