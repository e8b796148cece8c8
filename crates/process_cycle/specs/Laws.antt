-- What follows of what a process promises.
use Rattle.std.specs.Prelude.{◌≡◌, ℕ, List, ◌++◌, All, reverse, slice_get, Some}
use Rattle.engine_model.specs.Items.{Kind}
use Rattle.engine_model.specs.Journal.{Entry}
use Rattle.engine_model.specs.Truth.{IsTruthful}
use Rattle.engine_model.specs.Due.{Ack}
use Rattle.session_model.specs.declared.edit.Edit.{Edit}
use Rattle.disk_ring.specs.Receiver.{Receiver}
use Rattle.disk_ring.specs.Sender.{Sender}
use Rattle.piece_item.specs.declared.item.Item.{Item}
use Rattle.piece_item.specs.declared.take_block.TakeBlock.{TakeBlock}
use Rattle.capture_flush.specs.Finished.{IsCounted}
use Rattle.track_playback.specs.SpareBoxes.{received_kinds}
use Rattle.process_ends.specs.declared.ends.ProcessEnds.{ProcessEnds}
use Rattle.process_cycle.specs.ProcessState.{Playing}
use Rattle.process_cycle.specs.Promised.{Promises}
use Rattle.process_cycle.specs.Told.{AreTold, IsSettledBy}

-- The journal is truthful of each track's two rings, whatever else was sent on the first.
abbrev pub PromisesAreTruthful : Type 0
PromisesAreTruthful = (at : Playing) (entries : List Entry) (ends : ProcessEnds) (t : ℕ) (r : Receiver Item) (d : Sender TakeBlock) (unreceived : List Kind) → Promises at entries ends →
    slice_get ends.plays.items t ≡ Some r → slice_get ends.takes.items t ≡ Some d →
    IsTruthful at.edits at.session.depth t (reverse (received_kinds r) ++ unreceived) r.tails d.heads (reverse entries)

-- Its takes are counted with no gap.
abbrev pub PromisesAreCounted : Type 0
PromisesAreCounted = (at : Playing) (entries : List Entry) (ends : ProcessEnds) → Promises at entries ends → IsCounted at.session (reverse entries)

-- What was told of the entries of a journal names them, each with what it has settled, whatever edits come.
abbrev pub ToldIsSettled : Type 0
ToldIsSettled = (edits : List Edit) (depth : ℕ) (entries : List Entry) (acks : List Ack) (heads : List ℕ) → AreTold edits depth entries acks heads → All (IsSettledBy (reverse entries)) acks
