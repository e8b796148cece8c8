-- What a process keeps over its cycles: each end is still that of its ring, and what went through it stands.
use Rattle.std.specs.Prelude.{◌≡◌, ℕ, length, slice_get, Some}
use mathlib.Core.List.{IsPrefix}
use Rattle.disk_ring.specs.Sender.{Sender, GoesOnIn}
use Rattle.piece_item.specs.declared.take_block.TakeBlock.{TakeBlock}
use Rattle.process_ends.specs.declared.ends.ProcessEnds.{ProcessEnds}
use Rattle.process_cycle.specs.ProcessState.{ProcessState}
use Rattle.play_worker.specs.Patient.{AllGoOn}

pub record KeepsRings (old new : ProcessEnds) : Type 0 where
  pub many_plays : length new.plays.items ≡ length old.plays.items
  pub plays : AllGoOn old.plays.items new.plays.items
  pub many_takes : length new.takes.items ≡ length old.takes.items
  pub takes : (t : ℕ) (a b : Sender TakeBlock) → slice_get old.takes.items t ≡ Some a → slice_get new.takes.items t ≡ Some b → GoesOnIn a b
  pub to_butler : GoesOnIn old.to_butler new.to_butler
  pub to_control : GoesOnIn old.to_control new.to_control

-- its rings, the entries made, room for as many, and what was told of the input, with the frames of a block
pub record KeepsRun {I W : Type 0} (old new : ProcessState I W) : Type 0 where
  pub rings : KeepsRings old.ends new.ends
  pub journal : IsPrefix old.journal.items new.journal.items
  pub room : new.journal.room ≡ old.journal.room
  pub stream : new.input.stream ≡ old.input.stream
  pub block : new.input.block ≡ old.input.block
