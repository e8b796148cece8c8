-- What a cycle has of its tracks when it plays: all that was received was offered to the windows, but for items held there.
use Rattle.std.specs.Prelude.{◌≡◌, ℕ, ◌<◌, Bool, true, List, length, map, replicate, slice_get, slice_index_or, Some, ⊤}
use Rattle.engine_model.specs.Items as engine
use Rattle.engine_model.specs.Items.{Piece, Settled, Blank}
use Rattle.engine_model.specs.Journal as journal
use Rattle.engine_model.specs.Cycle.{settled_number, state_of, notes_of}
use Rattle.piece_item.specs.declared.item.Item.{Item}
use Rattle.piece_item.specs.Views.{kind_of}
use Rattle.disk_ring.specs.Receiver.{Receiver}
use Rattle.cycle_journal.specs.declared.entry.State.{State}
use Rattle.cycle_journal.specs.declared.entry.State.TheVariants.{Stopped, Seeking, Rolling}
use Rattle.track_playback.specs.declared.playback.SpareBox.{SpareBox}
use Rattle.track_playback.specs.declared.playback.SpareBox.TheVariants.{Husk, Held, Lent}
use Rattle.track_playback.specs.declared.playback.TrackPlayback.{TrackPlayback}
use Rattle.track_playback.specs.declared.play_position.PlayPosition.{PlayPosition}
use Rattle.track_playback.specs.SpareBoxes.{received_kinds}
use Rattle.track_playback.specs.Looks.{holds}
use Rattle.track_playback.specs.Played.{IsPlayed}

-- a held item is still held there
abbrev pub IsStillHeld : PlayPosition → SpareBox → Type 0
IsStillHeld at (Husk box) = ⊤
IsStillHeld at (Held box) = holds at (kind_of box.value.kind) ≡ true
IsStillHeld at Lent = ⊥

-- each is
abbrev pub AllLooked : PlayPosition → List TrackPlayback → Type 0
AllLooked at playbacks = (t : ℕ) (d : TrackPlayback) → t < length playbacks → IsStillHeld at (slice_index_or playbacks t d).spare

-- a track was looked at there: its window shows what was received
pub record IsHeard (at : PlayPosition) (r : Receiver Item) (d : TrackPlayback) : Type 0 where
  -- how many samples its boxes have
  pub samples : ℕ
  pub played : IsPlayed at samples r d
  pub held : IsStillHeld at d.spare

-- each track was
pub record AreHeard (at : PlayPosition) (plays : List (Receiver Item)) (playbacks : List TrackPlayback) : Type 0 where
  -- a window has at least one box
  pub some : 0 < at.depth
  pub count : length playbacks ≡ length plays
  pub each : (t : ℕ) (r : Receiver Item) (d : TrackPlayback) → slice_get plays t ≡ Some r → slice_get playbacks t ≡ Some d → IsHeard at r d

-- a state that rolls plays the block of the position
abbrev pub IsAt : PlayPosition → State → Type 0
IsAt at Stopped = ⊤
IsAt at (Seeking track tail) = ⊤
IsAt at (Rolling generation seq) = (generation ≡ at.generation) × (seq ≡ at.next)

-- the playlist edition that a piece was made by, 0 of another item
abbrev pub touched_of : engine.Kind → ℕ
touched_of (Piece track generation seq touched) = touched
touched_of (Settled edition generation from) = 0
touched_of Blank = 0

-- the entry of a cycle that plays there, by what was received of each track: of none of them a take is recorded
abbrev pub entry_made : ℕ → Bool → PlayPosition → List (Receiver Item) → journal.Entry
entry_made number rolling at plays = let tracks = map received_kinds plays in record {
  edition = number;
  settled = settled_number number at.generation at.next tracks;
  state = state_of rolling at.generation at.next tracks;
  notes = notes_of (state_of rolling at.generation at.next tracks) tracks (replicate (length plays) journal.Off);
}
