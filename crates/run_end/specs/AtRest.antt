-- A run whose process has ended, and whose butler has nothing left to do.
use Rattle.std.specs.Prelude.{◌≡◌, ℕ, ◌≤◌, true, length, reverse, slice_get, Some}
use Rattle.ses_io.specs.Outside.{MediaOutside, SourceOutside}
use Rattle.disk_ring.specs.Sender.{Sender}
use Rattle.disk_ring.specs.Receiver.{Receiver}
use Rattle.piece_item.specs.declared.item.Item.{Item}
use Rattle.piece_item.specs.declared.take_block.TakeBlock.{TakeBlock}
use Rattle.cycle_journal.specs.JournalView.{seen_entries}
use Rattle.input_blocks.specs.Rest.{rest_sound}
use Rattle.process_ends.specs.declared.ends.ProcessEnds.{ProcessEnds}
use Rattle.process_cycle.specs.Captured.{Hears}
use Rattle.process_cycle.specs.Promised.{Promises}
use Rattle.worker_pair.specs.declared.ending.Ending.{Ending}
use Rattle.worker_pair.specs.declared.ending.Stopped.{Stopped}
use Rattle.worker_pair.specs.Begun.{playing_at}
use Rattle.run_end.specs.declared.failures.Failures.{Failures}
use Rattle.run_end.specs.declared.leaving.AtRest.{AtRest}
use Rattle.run_end.specs.Depths.{HaveDepths}
use Rattle.run_end.specs.LastTurns.{AllReceived, TakesLastTurns, at_last}
use Rattle.run_end.specs.Started.{Started}

-- ends that say the same: what was sent and received, the looks that found nothing, and the blocks and acknowledgements that found no room
pub record SayTheSame (old new : ProcessEnds) : Type 0 where
  pub many : length new.plays.items ≡ length old.plays.items
  pub plays : (t : ℕ) (r q : Receiver Item) → slice_get old.plays.items t ≡ Some r → slice_get new.plays.items t ≡ Some q → q ≡ record r { heard = q.heard; over = q.over }
  pub many_takes : length new.takes.items ≡ length old.takes.items
  pub takes : (t : ℕ) (k l : Sender TakeBlock) → slice_get old.takes.items t ≡ Some k → slice_get new.takes.items t ≡ Some l → (l.sent ≡ k.sent) × (l.heads ≡ k.heads)
  pub to_butler : (new.to_butler.sent ≡ old.to_butler.sent) × (new.to_butler.heads ≡ old.to_butler.heads)
  pub to_control : (new.to_control.sent ≡ old.to_control.sent) × (new.to_control.heads ≡ old.to_control.heads)

-- those that put are closed, but for that of the acknowledgements to the butler, of which nothing is said
pub record ProcessIsShut (ends : ProcessEnds) : Type 0 where
  pub takes : (t : ℕ) (k : Sender TakeBlock) → slice_get ends.takes.items t ≡ Some k → k.closed ≡ true
  pub to_control : ends.to_control.closed ≡ true

module _ {V I W : Type 0} where
  -- **The process has ended**, and left its ends; the butler may take its last turns.
  pub record ProcessHasEnded (media : MediaOutside V) (inputs : SourceOutside I) (on : Started V I W) (ending : Ending V) (stopped : Stopped I W) (failed : Failures) : Type 0 where
    pub last : TakesLastTurns media on ending failed
    -- its ends are closed, of the session's depth, and keep its promises over all edits
    pub shut : ProcessIsShut ending.ends
    pub depths : HaveDepths on.begun.session ending.ends
    pub promises : Promises (playing_at (at_last on.begun ending)) (reverse (seen_entries stopped.journal.items)) ending.ends
    -- what was captured is of one sound, which is the input's where it tells
    pub hears : Hears inputs.tells (rest_sound on.stream on.begun.start) on.begun.session (reverse (seen_entries stopped.journal.items)) ending.ends.takes.items
    -- control has the other end of its ring
    pub control : stopped.acks.ring ≡ ending.ends.to_control.ring
    pub room : stopped.journal.room ≤ 100000

  -- **And the butler has nothing left to do.**
  pub record IsAtRest (media : MediaOutside V) (inputs : SourceOutside I) (on : Started V I W) (r : AtRest V I W) : Type 0 where
    pub ended : ProcessHasEnded media inputs on r.ending r.stopped r.failed
    -- it has entered all edits, and received every block
    pub entered : r.ending.butler.entered ≡ length r.ending.edition.edits
    pub received : AllReceived r.ending
