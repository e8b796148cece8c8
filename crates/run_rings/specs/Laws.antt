-- What the ends of new rings are to the workers that get them.
use Rattle.std.specs.Prelude.{◌≡◌, ℕ, length, slice_get, Some}
use Rattle.session_model.specs.declared.session.Session.{Session}
use Rattle.disk_ring.specs.Sender.{Sender}
use Rattle.disk_ring.specs.Receiver.{Receiver}
use Rattle.piece_item.specs.declared.item.Item.{Item}
use Rattle.piece_item.specs.declared.take_block.TakeBlock.{TakeBlock}
use Rattle.piece_item.specs.declared.butler_ends.ButlerEnds.{ButlerEnds}
use Rattle.process_ends.specs.Ends.{AreNew, AreOtherEnds, IsNewIn, IsNewOut, block_of}
use Rattle.run_rings.specs.declared.run_ends.RunEnds.{RunEnds}
use Rattle.run_rings.specs.Rings.{AreNewRunEnds}

-- The butler's ends of new rings: two for each track, whose boxes have a block of it, and one of acknowledgements.
pub record AreNewForButler (s : Session) (ends : ButlerEnds) : Type 0 where
  pub tracks : length ends.sends.items ≡ length s.tracks.items
  pub each : (t : ℕ) (d : Sender Item) → slice_get ends.sends.items t ≡ Some d → IsNewIn s.depth (block_of s t) d
  pub captures : length ends.takes.items ≡ length s.tracks.items
  pub each_capture : (t : ℕ) (r : Receiver TakeBlock) → slice_get ends.takes.items t ≡ Some r → IsNewOut s.depth (block_of s t) r
  pub acks : IsNewOut s.depth 0 ends.acks

-- What the workers, and control, may know of their ends.
pub record FitTheWorkers (s : Session) (w : RunEnds) : Type 0 where
  -- the process's are new, and so are the butler's, which are the others of their rings
  pub process : AreNew s w.process
  pub serving : AreNewForButler s w.butler
  pub butler : AreOtherEnds w.process w.butler
  -- and control's
  pub hearing : IsNewOut s.depth 0 w.acks
  pub control : w.acks.ring ≡ w.process.to_control.ring

abbrev pub NewEndsFit : Type 0
NewEndsFit = (s : Session) (w : RunEnds) → AreNewRunEnds s w → FitTheWorkers s w
