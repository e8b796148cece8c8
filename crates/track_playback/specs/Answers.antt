-- What a look of all tracks leaves, and what it answers.
use Rattle.std.specs.Prelude.{◌≡◌, ℕ, ◌<◌, Bool, true, false, List, length, reverse, slice_get, slice_index_or, Some}
use Rattle.engine_model.specs.Cycle.{has_piece}
use Rattle.engine_laws.specs.MadeLaws.{HasLookedUp}
use Rattle.disk_ring.specs.Receiver.{Receiver}
use Rattle.piece_item.specs.declared.item.Item.{Item}
use Rattle.play_window.specs.Offers.{Offered, kinds}
use Rattle.play_window.specs.WindowState.{IsNoEarlier, IsWindowOf}
use Rattle.track_playback.specs.declared.playback.TrackPlayback.{TrackPlayback}
use Rattle.track_playback.specs.declared.play_position.PlayPosition.{PlayPosition}
use Rattle.track_playback.specs.SpareBoxes.{received_kinds}
use Rattle.track_playback.specs.Looks.{Looks, EndsWith}

-- the piece that is played there was received
abbrev pub is_there : PlayPosition → Receiver Item → Bool
is_there at r = has_piece at.generation at.next (received_kinds r)

-- every track was looked at
abbrev pub AllLook : PlayPosition → List (Receiver Item) → List TrackPlayback → List (Receiver Item) → List TrackPlayback → Type 0
AllLook at a d b e = (t : ℕ) (x : Receiver Item) (y : TrackPlayback) → t < length a → Looks at (slice_index_or a t x) (slice_index_or d t y) (slice_index_or b t x) (slice_index_or e t y)

-- each track's look-up is over, as the definitions of the engine have it: its last look noted the number received, or the last item
-- received is held
abbrev pub HaveLookedUp : PlayPosition → List (Receiver Item) → List (Receiver Item) → Type 0
HaveLookedUp at a b = (t : ℕ) (x y : Receiver Item) → slice_get a t ≡ Some x → slice_get b t ≡ Some y →
    HasLookedUp at.depth at.generation at.next (received_kinds y) (reverse x.tails) (reverse y.tails)

-- a window tells whether the piece that is played there was received
pub record Shows (at : PlayPosition) (r : Receiver Item) (d : TrackPlayback) : Type 0 where
  -- nothing was asked of it past the position
  pub until : IsNoEarlier d.window.generation d.window.next at.generation at.next
  -- so what it has is what was received
  pub tells : (there : Bool) → ((given : List Offered) → IsWindowOf given d.window → there ≡ has_piece at.generation at.next (kinds given)) → there ≡ is_there at r

-- each track's does
pub record AllShow (at : PlayPosition) (b : List (Receiver Item)) (e : List TrackPlayback) : Type 0 where
  pub count : length e ≡ length b
  pub each : (t : ℕ) (r : Receiver Item) (d : TrackPlayback) → t < length b → Shows at (slice_index_or b t r) (slice_index_or e t d)

-- the piece of some track wasn't received
abbrev pub IsMissing : PlayPosition → List (Receiver Item) → Type 0
IsMissing at b = (t : ℕ) × (t < length b) × ((x : Receiver Item) → is_there at (slice_index_or b t x) ≡ false)

-- a track whose piece wasn't received, after a look that ended at the tail which it noted, or at a held item
pub record Waits (at : PlayPosition) (a b : List (Receiver Item)) (e : List TrackPlayback) : Type 0 where
  pub track : ℕ
  pub within : track < length a
  pub missing : (x : Receiver Item) → is_there at (slice_index_or b track x) ≡ false
  pub ended : (x : Receiver Item) (y : TrackPlayback) → EndsWith at (slice_index_or a track x) (slice_index_or b track x) (slice_index_or e track y).spare

-- each track has its piece
abbrev pub AllThere : PlayPosition → List (Receiver Item) → Type 0
AllThere at b = (t : ℕ) (x : Receiver Item) → t < length b → is_there at (slice_index_or b t x) ≡ true
