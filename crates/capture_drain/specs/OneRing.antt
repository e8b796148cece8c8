-- What draining does to one ring, which stands among all rings.
use Rattle.std.specs.Prelude.{◌≡◌, ℕ, ◌+◌, ◌<◌, ◌≤◌, Bool, true, false, List, length, set, slice_get, Some}
use Rattle.disk_ring.specs.Receiver.{Receiver}
use Rattle.piece_item.specs.declared.take_block.TakeBlock.{TakeBlock}
use Rattle.capture_drain.specs.declared.track.TrackDrain.{TrackDrain}
use Rattle.capture_drain.specs.Drains.{Drains, IsDrained}
use Rattle.capture_drain.specs.State.{Fits}
use Rattle.capture_drain.specs.Files.{RunStart}

-- what no code holds and clauses speak of: how the run began, and all rings as they stand before a call
pub record Standing : Type 0 where
  pub run : RunStart
  pub rings : List (Receiver TakeBlock)

-- it is the ring of track t, and what is kept of it fits
pub record IsRingOf (at : Standing) (t : ℕ) (k : TrackDrain) (r : Receiver TakeBlock) : Type 0 where
  pub here : slice_get at.rings t ≡ Some r
  pub track : t < length at.run.session.tracks.items
  pub fits : Fits k r

-- one block was taken, or the ring was taken to its end
abbrev pub HasTaken : Receiver TakeBlock → Receiver TakeBlock → Bool → Type 0
HasTaken old new true = (length new.received ≡ length old.received + 1) × (new.tails ≡ old.tails)
HasTaken old new false = (length new.received ≡ length old.received) × IsDrained old new

-- so many of so many were taken, fewer only where the ring was taken to its end
pub record HasDrained (most : ℕ) (old new : Receiver TakeBlock) (n : ℕ) : Type 0 where
  pub counted : length new.received ≡ length old.received + n
  pub few : n ≤ most
  pub done : n < most → IsDrained old new

-- some of so many were taken
pub record HasStopped (most : ℕ) (old new : Receiver TakeBlock) : Type 0 where
  pub some : length old.received < length new.received
  pub few : length new.received ≤ length old.received + most

-- of these lists the ring of track t changed, and what is kept of it, which fits
pub record IsOneDrained (t : ℕ) (ks : List TrackDrain) (olds : List (Receiver TakeBlock)) (js : List TrackDrain) (news : List (Receiver TakeBlock)) : Type 0 where
  pub kept : TrackDrain
  pub was : Receiver TakeBlock
  pub ring : Receiver TakeBlock
  pub here : slice_get olds t ≡ Some was
  pub tracks : js ≡ set ks t kept
  pub rings : news ≡ set olds t ring
  pub fits : Fits kept ring
  pub drains : Drains was ring

-- how many of so many were taken of the ring of track t
abbrev pub HasOneTaken : ℕ → ℕ → List (Receiver TakeBlock) → List (Receiver TakeBlock) → ℕ → Type 0
HasOneTaken most t olds news n = (a b : Receiver TakeBlock) → slice_get olds t ≡ Some a → slice_get news t ≡ Some b → HasDrained most a b n
