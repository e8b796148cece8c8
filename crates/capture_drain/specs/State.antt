-- What contracts see of a drain: the take files, and of each capture ring what is kept between two calls.
use Rattle.std.specs.Prelude.{◌≡◌, ℕ, ◌*◌, List, length, slice_get, Some, IsSomeAnd, false}
use Rattle.disk_ring.specs.Receiver.{Receiver}
use Rattle.session_model.specs.declared.session.Session.{Session}
use Rattle.session_model.specs.Formed.{channels_at}
use Rattle.piece_item.specs.declared.take_block.TakeBlock.{TakeBlock}
use Rattle.capture_flush.specs.Taking.{Taking, new_takes}
use Rattle.capture_drain.specs.declared.track.TrackDrain.{TrackDrain}

pub record DrainState : Type 0 where
  pub files : Taking
  pub tracks : List TrackDrain

-- a box is there and fits the ring, and it is known whether the ring answered Closed
pub record Fits (k : TrackDrain) (r : Receiver TakeBlock) : Type 0 where
  pub husk : IsSomeAnd k.husk (λ b. length b.value.samples.items ≡ r.room)
  pub ended : k.ended ≡ r.ended

-- so it is of each ring
pub record AreFitted (drain : DrainState) (rings : List (Receiver TakeBlock)) : Type 0 where
  pub many : length drain.tracks ≡ length rings
  pub each : (t : ℕ) (k : TrackDrain) (r : Receiver TakeBlock) → slice_get drain.tracks t ≡ Some k → slice_get rings t ≡ Some r → Fits k r

-- nothing was taken yet, and of each track there is a box of one block
pub record IsFirst (s : Session) (drain : DrainState) : Type 0 where
  pub files : drain.files ≡ new_takes s
  pub many : length drain.tracks ≡ length s.tracks.items
  pub each : (t : ℕ) (k : TrackDrain) → slice_get drain.tracks t ≡ Some k →
      IsSomeAnd k.husk (λ b. length b.value.samples.items ≡ s.block * channels_at s t) × (k.ended ≡ false)
