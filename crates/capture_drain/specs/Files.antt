-- What draining does to the files of a media.
use Rattle.std.specs.Prelude.{◌≡◌, ℕ, Bool, true, false, List, [], ◌∷◌, ◌++◌, map, slice_get, Result}
use Rattle.std.specs.Option.{option_map_or}
use Rattle.ses_io.specs.Files.{Files}
use Rattle.ses_io.specs.Outside.{MediaOutside, WriteCause}
use Rattle.session_model.specs.declared.session.Session.{Session}
use Rattle.disk_ring.specs.Receiver.{Receiver}
use Rattle.piece_item.specs.declared.take_block.TakeBlock.{TakeBlock}
use Rattle.capture_flush.specs.declared.fault.WriteFault.{WriteFault}
use Rattle.capture_flush.specs.Blocks.{Block, block_of}
use Rattle.capture_flush.specs.declared.track.FailedTake.{FailedTake}
use Rattle.capture_flush.specs.Taking.{Taking}
use Rattle.capture_flush.specs.Flushed.{Tape, IsTakeName}
use Rattle.capture_drain.specs.Drains.{total_received}

-- what no code holds and clauses speak of: the session, and the files before the first block
pub record RunStart : Type 0 where
  pub session : Session
  pub held : Files

-- the blocks that were received of track t
abbrev pub blocks_at : List (Receiver TakeBlock) → ℕ → List Block
blocks_at rings t = option_map_or (λ r. map block_of r.received) (slice_get rings t) []

-- all that was received so far, as what the take files were given
abbrev pub tape_of : RunStart → List (Receiver TakeBlock) → Tape
tape_of run rings = record { session = run.session; held = run.held; blocks = blocks_at rings }

-- The takes that have failed: those of before, and one more where a write failed.
abbrev pub NotesFault : Bool → Taking → Taking → Type 0
NotesFault true old new = (k : FailedTake) × (new.failed ≡ old.failed ++ k ∷ [])
NotesFault false old new = new.failed ≡ old.failed

-- no file changed but those of takes
abbrev pub OtherFilesStand : Session → Files → Files → Type 0
OtherFilesStand s old new = (q : List ℕ) → ¬ (IsTakeName s q) → new q ≡ old q

-- What a call leaves of the media.
pub record WritesTakes {V T : Type 0} (outside : MediaOutside V) (s : Session) (before after : List (Receiver TakeBlock)) (old new : V) (result : Result T WriteFault) : Type 0 where
  pub others : outside.tells → OtherFilesStand s (outside.files old) (outside.files new)
  -- where nothing was received it stands
  pub same : total_received after ≡ total_received before → new ≡ old
  -- a fault comes only where the count of failed writes rose
  pub cause : WriteCause outside old new result
  -- and no read failed
  pub reads : outside.read_faults new ≡ outside.read_faults old
