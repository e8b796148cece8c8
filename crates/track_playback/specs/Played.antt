-- When a track is played up to a position: its window shows what was received.
use Rattle.std.specs.Prelude.{◌≡◌, ℕ, ◌<◌, List, [], length, map, false, slice_index_or}
use Rattle.disk_ring.specs.Receiver.{Receiver}
use Rattle.piece_item.specs.declared.item.Item.{Item}
use Rattle.play_window.specs.Offers.{Offered}
use Rattle.play_window.specs.WindowState.{IsWindowOf, IsNoEarlier}
use Rattle.track_playback.specs.declared.playback.TrackPlayback.{TrackPlayback}
use Rattle.track_playback.specs.declared.play_position.PlayPosition.{PlayPosition}
use Rattle.track_playback.specs.SpareBoxes.{HasRoom, IsHusk, offers, HoldsTheLast}

-- the window is that of some offers, which are what was received but a held item, in order
pub record ShowsOffers (r : Receiver Item) (d : TrackPlayback) : Type 0 where
  pub given : List Offered
  pub window : IsWindowOf given d.window
  pub items : map (λ o. o.item) given ≡ offers r d.spare

-- a track is played up to this position, in boxes of so many samples
pub record IsPlayed (at : PlayPosition) (samples : ℕ) (r : Receiver Item) (d : TrackPlayback) : Type 0 where
  -- ring and window are of one depth and room
  pub depth : r.depth ≡ at.depth
  pub window_depth : d.window.depth ≡ at.depth
  pub room : r.room ≡ samples
  pub window_room : d.window.samples ≡ samples
  pub spare : HasRoom samples d.spare
  -- nothing was asked of the window past the position
  pub until : IsNoEarlier d.window.generation d.window.next at.generation at.next
  -- a held item is the last one received, and all others were offered
  pub last : HoldsTheLast r d.spare
  pub shows : ShowsOffers r d
  -- the tail that is kept is the number received
  pub tail : d.tail ≡ length r.received

-- each track is, in boxes of some size
abbrev pub AllPlayed : PlayPosition → List (Receiver Item) → List TrackPlayback → Type 0
AllPlayed at plays playbacks = (t : ℕ) (r : Receiver Item) (d : TrackPlayback) → t < length plays → (samples : ℕ) × IsPlayed at samples (slice_index_or plays t r) (slice_index_or playbacks t d)

-- the playback of a track of which nothing was received
pub record IsNewPlayback (blocks samples : ℕ) (d : TrackPlayback) : Type 0 where
  pub window : IsWindowOf [] d.window
  pub depth : d.window.depth ≡ blocks
  pub room : d.window.samples ≡ samples
  pub spare : IsHusk samples d.spare
  pub tail : d.tail ≡ 0
  pub closed : d.closed ≡ false

-- of each track the playback knows whether the ring has answered Closed
pub record KnowsTheEnds (plays : List (Receiver Item)) (playbacks : List TrackPlayback) : Type 0 where
  pub count : length playbacks ≡ length plays
  pub closed : (t : ℕ) (r : Receiver Item) (d : TrackPlayback) → t < length plays → (slice_index_or playbacks t d).closed ≡ (slice_index_or plays t r).ended
