-- What a serial cycle leaves of the capture rings: no block is lost.
use Rattle.std.specs.Prelude.{◌≡◌, ℕ, List, [], length, slice_get, Some}
use Rattle.disk_ring.specs.Sender.{Sender}
use Rattle.piece_item.specs.declared.take_block.TakeBlock.{TakeBlock}
use Rattle.worker_pair.specs.Tied.{rings_of}
use Rattle.engine_core.specs.declared.run.Run.{Run}
use Rattle.run_end.specs.LastTurns.{AllReceived}

-- no ring was found full
abbrev pub NoneIsLost : List (Sender TakeBlock) → Type 0
NoneIsLost takes = (t : ℕ) (d : Sender TakeBlock) → slice_get takes t ≡ Some d → d.heads ≡ []

module _ {V I W : Type 0} where
  abbrev pub captures_of : Run V I W → List (Sender TakeBlock)
  captures_of r = r.pair.process.ends.takes.items

  -- Their ends stand, but for what they are told.
  pub record CapturesStand (old new : Run V I W) : Type 0 where
    pub many : length (captures_of new) ≡ length (captures_of old)
    pub each : (t : ℕ) (k l : Sender TakeBlock) → slice_get (captures_of old) t ≡ Some k → slice_get (captures_of new) t ≡ Some l → l ≡ record k { got = l.got }

  -- each block that was captured was taken out of its ring
  abbrev pub IsFlushed : Run V I W → Type 0
  IsFlushed r = AllReceived (rings_of r.pair)

  -- **No block is lost.**
  abbrev pub LosesNone : Run V I W → Run V I W → Type 0
  LosesNone old new = NoneIsLost (captures_of old) → NoneIsLost (captures_of new)
