-- What contracts see of a process.
use Rattle.std.specs.Prelude.{ℕ, List, map, reverse}
use Rattle.ses_io.specs.FixedList.{Listed}
use Rattle.session_model.specs.declared.session.Session.{Session}
use Rattle.session_model.specs.declared.edit.Edit.{Edit}
use Rattle.engine_model.specs.Items.{Kind, Item}
use Rattle.engine_model.specs.Journal as engine
use Rattle.engine_model.specs.Takes.{Input}
use Rattle.cycle_journal.specs.declared.entry.Entry.{Entry}
use Rattle.cycle_journal.specs.JournalView.{seen_entries}
use Rattle.input_blocks.specs.Rest.{rest_sound}
use Rattle.input_blocks.specs.State.{InputState}
use Rattle.master_blocks.specs.State.{MasterState}
use Rattle.track_capture.specs.declared.capture.TrackCapture.{TrackCapture}
use Rattle.track_playback.specs.declared.playback.TrackPlayback.{TrackPlayback}
use Rattle.track_playback.specs.declared.play_position.PlayPosition.{PlayPosition}
use Rattle.track_playback.specs.SpareBoxes.{received_items, received_kinds}
use Rattle.process_ends.specs.declared.ends.ProcessEnds.{ProcessEnds}

pub record ProcessState (I W : Type 0) : Type 0 where
  pub input : InputState I
  pub master : MasterState W
  pub ends : ProcessEnds
  -- of each track its window, its spare box, and what its last look found
  pub playbacks : List TrackPlayback
  -- of each track how its takes are counted, and a box for its next block
  pub captures : List TrackCapture
  -- the entries made so far, with their room
  pub journal : Listed Entry
  -- the items of a ring, which are the blocks of a window
  pub depth : ℕ
  -- the number of the edition last given, its generation, and how many entries rolled in that
  pub entered : ℕ
  pub generation : ℕ
  pub next : ℕ

-- What no process holds and clauses speak of.
pub record Playing : Type 0 where
  pub session : Session
  -- the edits of the edition that it was given last
  pub edits : List Edit
  -- the bytes that the input had left before its first block, and those that the master held before its header
  pub start : List ℕ
  pub before : List ℕ

-- a later edition was given
abbrev pub entered : List Edit → Playing → Playing
entered edits at = record at { edits = edits }

module _ {I W : Type 0} where
  -- the entries, newest first
  abbrev pub entries_of : ProcessState I W → List engine.Entry
  entries_of p = reverse (seen_entries p.journal.items)

  abbrev pub position_of : ProcessState I W → PlayPosition
  position_of p = record { depth = p.depth; generation = p.generation; next = p.next }

  -- what was received of each track
  abbrev pub kinds_of : ProcessState I W → List (List Kind)
  kinds_of p = map received_kinds p.ends.plays.items

  abbrev pub items_of : ProcessState I W → List (List Item)
  items_of p = map received_items p.ends.plays.items

  -- the sound of the input, by what it had left at first
  abbrev pub sound_of : Playing → ProcessState I W → Input
  sound_of at p = rest_sound p.input.stream at.start
