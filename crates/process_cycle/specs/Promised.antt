-- What a process promises of its rings, its journal and its master, whatever the butler sends. Entries stand newest first.
use Rattle.std.specs.Prelude.{◌≡◌, ℕ, List, ◌++◌, length, map, reverse, slice_get, Some}
use Rattle.std.specs.List.{flat_map}
use Rattle.sound_model.specs.Regions.{Sounds}
use Rattle.ses_io.specs.Outside.{SinkOutside}
use Rattle.session_model.specs.declared.session.Session.{Session}
use Rattle.session_model.specs.declared.edit.Edit.{Edit}
use Rattle.engine_model.specs.Items.{Item}
use Rattle.engine_model.specs.Journal.{Entry}
use Rattle.engine_model.specs.Made.{AreMade}
use Rattle.engine_model.specs.Played.{Samples, samples_of}
use Rattle.engine_laws.specs.MadeLaws.{LooksStand}
use Rattle.engine_laws.specs.PlayedLaws.{IsOfTrack}
use Rattle.disk_ring.specs.Receiver.{Receiver}
use Rattle.disk_ring.specs.Sender.{Sender}
use Rattle.piece_item.specs.declared.item.Item as boxed
use Rattle.piece_item.specs.declared.take_block.TakeBlock.{TakeBlock}
use Rattle.master_blocks.specs.Bytes.{head_bytes, entry_bytes}
use Rattle.track_playback.specs.SpareBoxes.{received_kinds}
use Rattle.process_ends.specs.declared.ends.ProcessEnds.{ProcessEnds}
use Rattle.process_cycle.specs.Told.{IsToldOf}
use Rattle.process_cycle.specs.Captured.{AreCaptured}
use Rattle.process_cycle.specs.ProcessState.{ProcessState, Playing, entries_of, items_of}

-- By the edits that it was given.
pub record Promises (at : Playing) (entries : List Entry) (ends : ProcessEnds) : Type 0 where
  -- the entries are those of cycles, each in the edition that it entered and over what had been received by then
  pub made : AreMade at.session at.edits (length at.edits) (map received_kinds ends.plays.items) entries
  -- what they say of pieces that weren't there is true, by a look of its own for each
  pub looks : (t : ℕ) (r : Receiver boxed.Item) → slice_get ends.plays.items t ≡ Some r →
      LooksStand at.edits at.session.depth t (received_kinds r) (reverse r.tails) entries
  -- what they took was captured, and what they lost met a full ring
  pub captured : (t : ℕ) (d : Sender TakeBlock) → slice_get ends.takes.items t ≡ Some d → AreCaptured at.session t entries d
  -- each was acknowledged to both, or found the ring full
  pub to_butler : IsToldOf at.edits at.session.depth entries ends.to_butler
  pub to_control : IsToldOf at.edits at.session.depth entries ends.to_control

-- ---- the master

-- all that was received names its track, and is genuine
abbrev pub AllOfTrack : Session → List Edit → Samples → List (List Item) → Type 0
AllOfTrack s edits samples tracks = (t : ℕ) (items : List Item) → slice_get tracks t ≡ Some items → IsOfTrack s edits samples t items

-- Whatever edits follow: where all that was received is genuine by them, the master holds its header, and the block that each entry stands for.
abbrev pub HoldsBlocks : {W : Type 0} → SinkOutside W → Playing → ℕ → List Entry → List (List Item) → W → Type 0
HoldsBlocks outside at cycles entries tracks sink = (more : List Edit) (sounds : Sounds) → let edits = at.edits ++ more in
    let samples = samples_of sounds at.session edits in AllOfTrack at.session edits samples tracks →
    outside.held sink ≡ at.before ++ head_bytes at.session cycles ++ flat_map (entry_bytes at.session edits samples) (reverse entries)

abbrev pub IsMastered : {I W : Type 0} → SinkOutside W → Playing → ProcessState I W → Type 0
IsMastered outside at p = outside.tells → HoldsBlocks outside at p.journal.room (entries_of p) (items_of p) p.master.sink
