-- When a process plays a session by the edits that it was given.
use Rattle.std.specs.Prelude.{◌≡◌, ℕ, ◌<◌, ◌≤◌, [], length, false, slice_index_or, Option}
use Rattle.ses_io.specs.Outside.{SourceOutside, SinkOutside}
use Rattle.session_model.specs.declared.session.Session.{Session}
use Rattle.session_model.specs.Valid.{IsValid}
use Rattle.engine_model.specs.Edits.{generation}
use Rattle.engine_model.specs.Journal.{rolled}
use Rattle.disk_ring.specs.Receiver.{Receiver}
use Rattle.disk_ring.specs.Sender.{Sender}
use Rattle.piece_item.specs.declared.item.Item.{Item}
use Rattle.piece_item.specs.declared.take_block.TakeBlock.{TakeBlock}
use Rattle.wav_codec.specs.declared.info.WavInfo.{WavInfo}
use Rattle.input_blocks.specs.Rest.{stream_told}
use Rattle.input_blocks.specs.State.{IsReadTo}
use Rattle.master_blocks.specs.State.{IsMasterOf}
use Rattle.track_capture.specs.declared.capture.TrackCapture.{TrackCapture}
use Rattle.track_capture.specs.Counted.{Counts, FitsRing}
use Rattle.track_playback.specs.declared.playback.TrackPlayback.{TrackPlayback}
use Rattle.track_playback.specs.Played.{IsPlayed}
use Rattle.process_ends.specs.declared.ends.ProcessEnds.{ProcessEnds}
use Rattle.process_ends.specs.Ends.{block_of}
use Rattle.process_cycle.specs.Captured.{Hears}
use Rattle.process_cycle.specs.ProcessState.{ProcessState, Playing, entries_of, position_of, sound_of}
use Rattle.process_cycle.specs.Promised.{Promises}

-- an end that puts still takes items, of a ring of so many items of so many samples
pub record IsOpenIn {T : Type 0} (items samples : ℕ) (a : Sender T) : Type 0 where
  pub depth : a.depth ≡ items
  pub room : a.room ≡ samples
  pub still_open : a.closed ≡ false

-- what is kept of track t for its takes, and its capture ring
pub record IsRecorded {I W : Type 0} (s : Session) (t : ℕ) (p : ProcessState I W) (k : TrackCapture) (d : Sender TakeBlock) : Type 0 where
  pub depth : d.depth ≡ s.depth
  pub fits : FitsRing (block_of s t) k d
  pub counts : Counts (entries_of p) t k

-- the input was read up to the block of the next cycle
abbrev pub IsReadSoFar : {I W : Type 0} → SourceOutside I → Playing → ProcessState I W → Type 0
IsReadSoFar inputs at p = IsReadTo inputs (record { start = at.start; blocks = length p.journal.items }) p.input

-- The process plays this session, and was given these edits last.
pub record IsPlaying {I W : Type 0} (inputs : SourceOutside I) (at : Playing) (p : ProcessState I W) : Type 0 where
  pub valid : IsValid at.session
  -- two rings of each track, a window and the count of its takes
  pub plays : length p.ends.plays.items ≡ length at.session.tracks.items
  pub takes : length p.ends.takes.items ≡ length at.session.tracks.items
  pub playbacks : length p.playbacks ≡ length at.session.tracks.items
  pub captures : length p.captures ≡ length at.session.tracks.items
  pub depth : p.depth ≡ at.session.depth
  -- the number of the edition that it was given last is how many these edits are
  pub entered : p.entered ≡ length at.edits
  -- its position: the generation of the edits, and how many entries rolled in it
  pub generation : p.generation ≡ generation at.edits (length at.edits)
  pub next : p.next ≡ rolled p.generation (entries_of p)
  -- none rolled in a later one
  pub later : (h : ℕ) → p.generation < h → rolled h (entries_of p) ≡ 0
  -- each track
  pub played : (t : ℕ) (r : Receiver Item) (d : TrackPlayback) → t < length at.session.tracks.items →
      IsPlayed (position_of p) (block_of at.session t) (slice_index_or p.ends.plays.items t r) (slice_index_or p.playbacks t d)
  pub recorded : (t : ℕ) (d : Sender TakeBlock) (k : TrackCapture) → t < length at.session.tracks.items →
      IsRecorded at.session t p (slice_index_or p.captures t k) (slice_index_or p.ends.takes.items t d)
  -- the rings of acknowledgements
  pub to_butler : IsOpenIn at.session.depth 0 p.ends.to_butler
  pub to_control : IsOpenIn at.session.depth 0 p.ends.to_control
  -- input and master, in blocks of the session's frames
  pub master : IsMasterOf at.session p.master
  pub frames : p.input.block ≡ at.session.block
  pub read : IsReadSoFar inputs at p
  -- a run has no more cycles than this
  pub cycles : p.journal.room ≤ 100000
  pub within : length p.journal.items ≤ p.journal.room
  -- what it promises
  pub promises : Promises at (entries_of p) p.ends
  -- and what was captured is of one sound, which is the input's where it tells
  pub hears : Hears inputs.tells (sound_of at p) at.session (entries_of p) p.ends.takes.items

-- A process has begun to play a session, with room for so many cycles.
pub record HasBegun {I W : Type 0} (inputs : SourceOutside I) (sinks : SinkOutside W) (s : Session) (cycles : ℕ) (input : I) (form : Option WavInfo) (sink : W) (rings : ProcessEnds) (p : ProcessState I W) : Type 0 where
  -- it was given no edit
  pub playing : IsPlaying inputs (record { session = s; edits = []; start = inputs.left input; before = sinks.held sink }) p
  -- it has this input, this master and these ends
  pub input_is : p.input.input ≡ input
  pub stream : p.input.stream ≡ stream_told form
  pub master_is : p.master.sink ≡ sink
  pub ends_are : p.ends ≡ rings
  -- and noted nothing
  pub journal : p.journal ≡ record { items = []; room = cycles }
