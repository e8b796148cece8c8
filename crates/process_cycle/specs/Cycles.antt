-- When a process may make a cycle, and what a cycle makes.
use Rattle.std.specs.Prelude.{◌≡◌, ◌⊎◌, ℕ, suc, ◌+◌, ◌<◌, ◌≤◌, Bool, true, false, ◌&&◌, ℤ, List, ◌∷◌, [], ◌++◌, length, slice_get, Some, Result, Ok, Err}
use Rattle.sound_model.specs.Wav.{sound_bytes}
use Rattle.ses_units.specs.Bits.{bits_of}
use Rattle.ses_io.specs.Faults.{risen}
use Rattle.ses_io.specs.Outside.{SourceOutside, SinkOutside, Writes}
use Rattle.session_model.specs.declared.session.Session.{Session}
use Rattle.engine_model.specs.Journal as engine
use Rattle.engine_model.specs.Journal.{rolled, note_of}
use Rattle.engine_model.specs.Cycle.{entry_of, state_of}
use Rattle.engine_model.specs.Fits.{fits, fits_take, next_take, records}
use Rattle.engine_model.specs.Mixed.{mixed_in}
use Rattle.edition_log.specs.EditionState.{EditionState as Edition, IsEditionOf}
use Rattle.edition_log.specs.EditionState as log
use Rattle.disk_ring.specs.Sender.{Sender, Puts, Refuses}
use Rattle.piece_item.specs.declared.ack.Ack.{Ack}
use Rattle.piece_item.specs.declared.take_block.TakeBlock.{TakeBlock}
use Rattle.cycle_journal.specs.declared.entry.Entry.{Entry}
use Rattle.cycle_journal.specs.declared.entry.State.{State}
use Rattle.cycle_journal.specs.declared.entry.State.TheVariants.{Stopped, Seeking, Rolling}
use Rattle.cycle_journal.specs.declared.note.Note.{Note}
use Rattle.cycle_journal.specs.JournalView.{seen_entry, seen_take}
use Rattle.input_blocks.specs.State.{IsReadTo, IsCutShort, next_block}
use Rattle.track_capture.specs.declared.capture.TrackCapture.{TrackCapture}
use Rattle.track_capture.specs.Counted.{Counts, FitsRing, HasCaptured}
use Rattle.process_cycle.specs.declared.fault.CycleFault.{CycleFault}
use Rattle.process_cycle.specs.declared.fault.CycleFault.TheVariants.{InputFault, MasterFault}
use Rattle.process_ends.specs.Ends.{block_of}
use Rattle.process_cycle.specs.ProcessState.{ProcessState, Playing, entries_of, kinds_of, items_of}
use Rattle.process_cycle.specs.Playing.{IsPlaying}
use Rattle.process_cycle.specs.Looked.{HasLooked}

-- A process may make a cycle in this edition of a session.
pub record MayCycle {I W : Type 0} (inputs : SourceOutside I) (at : Playing) (e : Edition) (p : ProcessState I W) : Type 0 where
  pub playing : IsPlaying inputs at p
  -- the edition is the one that it was given last, and each track was looked at in it
  pub edition : IsEditionOf at.session e
  pub given : e.edits ≡ at.edits
  pub looked : HasLooked at p
  -- there is room for an entry
  pub room : length p.journal.items < p.journal.room
  -- and no edit quit
  pub unended : e.transport.quit ≡ false

-- ---- the block of the master

module _ {I W : Type 0} where
  -- what the transport does
  abbrev pub next_state : Edition → ProcessState I W → engine.State
  next_state e p = state_of e.transport.rolling p.generation p.next (kinds_of p)

  -- the bytes of the block: the mix of the pieces that were received, by the edition's routes
  abbrev pub next_bytes : Session → Edition → ProcessState I W → List ℕ
  next_bytes s e p = sound_bytes (bits_of s.bits) (mixed_in s e.edits (items_of p) (length e.edits) (next_state e p))

  -- they are written, all of them at Ok and a front after a MasterFault; after an InputFault nothing is
  abbrev pub CycleWrites : SinkOutside W → List ℕ → ProcessState I W → Result (Unit {0}) CycleFault → ProcessState I W → Type 0
  CycleWrites sinks bytes old (Ok x) new = Writes {E = CycleFault} sinks bytes old.master.sink new.master.sink (Ok x)
  CycleWrites sinks bytes old (Err InputFault) new = new.master ≡ old.master
  CycleWrites sinks bytes old (Err MasterFault) new = Writes {E = CycleFault} sinks bytes old.master.sink new.master.sink (Err MasterFault)

-- ---- the block of the input

-- one more block was read
pub record ReadsBlock {I W : Type 0} (inputs : SourceOutside I) (at : Playing) (old new : ProcessState I W) : Type 0 where
  pub place : IsReadTo inputs (record { start = at.start; blocks = suc (length old.journal.items) }) new.input
  pub samples : inputs.tells → new.input.samples ≡ next_block (record { start = at.start; blocks = length old.journal.items }) old.input
  pub stream : new.input.stream ≡ old.input.stream
  pub block : new.input.block ≡ old.input.block
  -- past the frames of its stream nothing is asked of it
  pub ended : old.input.done ≡ old.input.stream.frames → new.input.input ≡ old.input.input
  pub no_fault : inputs.faults new.input.input ≡ inputs.faults old.input.input

-- the read failed, and its count rose: less than a block was lost
pub record LosesBlock {I W : Type 0} (inputs : SourceOutside I) (old new : ProcessState I W) : Type 0 where
  pub short : IsCutShort inputs old.input new.input
  pub stream : new.input.stream ≡ old.input.stream
  pub block : new.input.block ≡ old.input.block
  pub ended : old.input.done ≡ old.input.stream.frames → new.input.input ≡ old.input.input
  pub later : inputs.faults old.input.input ≤ inputs.faults new.input.input
  pub rose : risen (inputs.faults old.input.input) ≤ inputs.faults new.input.input

abbrev pub CycleReads : {I W : Type 0} → SourceOutside I → Playing → ProcessState I W → Result (Unit {0}) CycleFault → ProcessState I W → Type 0
CycleReads inputs at old (Ok x) new = ReadsBlock inputs at old new
CycleReads inputs at old (Err InputFault) new = LosesBlock inputs old new
CycleReads inputs at old (Err MasterFault) new = ReadsBlock inputs at old new

-- ---- takes

-- What a cycle took of track t, whose note was `was` and is `noted` now, and what that did to its ring and to its count.
pub record Captures (e : Edition) (rolls : Bool) (before : List engine.Entry) (t channels : ℕ) (input : List ℤ) (was noted : Note) (old new : Sender TakeBlock) (k : TrackCapture) : Type 0 where
  -- nothing but the take is noted
  pub play : noted.play ≡ was.play
  -- the next block of its take where it is recorded, else nothing
  pub take : fits_take (rolls && records (log.state_of e) t) (next_take t before) (seen_take noted.take) ≡ true
  pub captured : HasCaptured e.session t channels input old noted.take new
  pub counts : (entry : engine.Entry) → (note_of t entry).take ≡ seen_take noted.take → Counts (entry ∷ before) t k
  pub fits : FitsRing (block_of e.session t) k new

-- ---- acknowledgements

-- the block after a cycle in this state, where this one was next
abbrev pub block_after : State → ℕ → ℕ
block_after Stopped next = next
block_after (Seeking track tail) next = next
block_after (Rolling generation seq) next = next + 1

-- the acknowledgement was put, or the ring was full by this head
abbrev pub Acknowledges : Ack → Sender Ack → Sender Ack → Type 0
Acknowledges ack a b = ((husk : Ack) × Puts (λ x. 0) a ack husk b) ⊎ ((head : ℕ) × Refuses a head b)

-- what is acknowledged after an entry
abbrev pub ack_of : {I W : Type 0} → ProcessState I W → Entry → Ack
ack_of p made = record {
  cycle = length p.journal.items;
  generation = p.generation;
  next = rolled p.generation (entries_of p);
  settled = made.settled;
}

-- ---- the whole

-- A cycle made its entry.
pub record MakesEntry {I W : Type 0} (s : Session) (e : Edition) (old new : ProcessState I W) : Type 0 where
  -- the entry, by what was received and what was taken of each track
  pub made : Entry
  pub takes : List engine.Take
  pub entry : seen_entry made ≡ entry_of s e.edits (entries_of old) (kinds_of old) takes (length e.edits)
  -- fits the edits and the entries before it
  pub fit : fits s e.edits (entries_of old) (seen_entry made) ≡ true
  -- it is the last one noted
  pub noted : new.journal ≡ record old.journal { items = old.journal.items ++ made ∷ [] }
  -- what it took of each track is of the block of the input that was read
  pub notes : length made.notes.items ≡ length old.ends.takes.items
  pub rings : length new.ends.takes.items ≡ length old.ends.takes.items
  pub captured : (t : ℕ) (d f : Sender TakeBlock) (note : Note) → slice_get old.ends.takes.items t ≡ Some d → slice_get new.ends.takes.items t ≡ Some f →
      slice_get made.notes.items t ≡ Some note → HasCaptured s t new.input.stream.form.channels new.input.samples d note.take f
  -- butler and control are told of it
  pub to_butler : Acknowledges (ack_of new made) old.ends.to_butler new.ends.to_butler
  pub to_control : Acknowledges (ack_of new made) old.ends.to_control new.ends.to_control
  -- nothing else changes
  pub takes_room : new.ends.takes.room ≡ old.ends.takes.room
  pub same : new ≡ record old {
    input = new.input;
    master = new.master;
    ends = record { plays = old.ends.plays; takes = new.ends.takes; to_butler = new.ends.to_butler; to_control = new.ends.to_control };
    captures = new.captures;
    journal = new.journal;
    next = new.next;
  }

-- A fault left all but input and master as it was.
abbrev pub HasStopped : {I W : Type 0} → ProcessState I W → ProcessState I W → Type 0
HasStopped old new = new ≡ record old { input = new.input; master = new.master }
