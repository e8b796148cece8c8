-- What a process leaves of its master, whatever has failed.
use Rattle.std.specs.Prelude.{◌≡◌, suc, ◌<◌, false, [], ◌++◌, length, List}
use Rattle.std.specs.List.{flat_map}
use Rattle.sound_model.specs.Regions.{Sounds}
use Rattle.ses_io.specs.Streams.{AppendsSome}
use Rattle.ses_io.specs.Outside.{SourceOutside, SinkOutside}
use Rattle.session_model.specs.declared.edit.Edit.{Edit}
use Rattle.engine_model.specs.Played.{samples_of}
use Rattle.session_model.specs.Valid.{IsValid}
use Rattle.edition_log.specs.EditionState.{EditionState as Edition, IsEditionOf}
use Rattle.input_blocks.specs.State.{IsReadTo}
use Rattle.master_blocks.specs.Bytes.{head_bytes, entry_bytes, end_bytes}
use Rattle.cycle_journal.specs.JournalView.{seen_entries}
use Rattle.process_cycle.specs.Cycles.{next_bytes}
use Rattle.process_cycle.specs.Looked.{HasLooked}
use Rattle.process_cycle.specs.Playing.{IsPlaying}
use Rattle.process_cycle.specs.Promised.{AllOfTrack, IsMastered}
use Rattle.process_cycle.specs.ProcessState.{ProcessState, Playing, items_of}

module _ {I W : Type 0} where
  -- ---- where a write failed

  -- The write of the header failed: there is no entry, and a front of it was written.
  pub record IsCutAtHead (inputs : SourceOutside I) (sinks : SinkOutside W) (at : Playing) (p : ProcessState I W) : Type 0 where
    pub none : p.journal.items ≡ []
    -- no block of the input was read
    pub read : IsReadTo inputs (record { start = at.start; blocks = 0 }) p.input
    pub front : sinks.tells → AppendsSome at.before (sinks.held p.master.sink) (head_bytes at.session p.journal.room)

  -- The write of a block failed: the process as it was before that cycle, in which no entry was made, and a front of its block.
  pub record IsCutInCycle (inputs : SourceOutside I) (sinks : SinkOutside W) (at : Playing) (p : ProcessState I W) : Type 0 where
    pub before : ProcessState I W
    pub edition : Edition
    -- the cycle might have been made
    pub playing : IsPlaying inputs at before
    pub looked : HasLooked at before
    pub edition_of : IsEditionOf at.session edition
    pub valid : IsValid edition.session
    pub given : edition.edits ≡ at.edits
    pub unended : edition.transport.quit ≡ false
    pub room : length before.journal.items < before.journal.room
    pub mastered : IsMastered sinks at before
    -- since then nothing was noted or received
    pub journal : p.journal ≡ before.journal
    pub items : items_of p ≡ items_of before
    -- but its block of the input was read
    pub read : IsReadTo inputs (record { start = at.start; blocks = suc (length p.journal.items) }) p.input
    pub front : sinks.tells → AppendsSome (sinks.held before.master.sink) (sinks.held p.master.sink) (next_bytes at.session edition before)

  -- ---- at the end

  -- whatever edits follow: where all that was received is genuine by them, the master holds header, blocks and end
  abbrev pub HoldsAll : SinkOutside W → Playing → ProcessState I W → Type 0
  HoldsAll sinks at p = (more : List Edit) (sounds : Sounds) → let edits = at.edits ++ more in let samples = samples_of sounds at.session edits in AllOfTrack at.session edits samples (items_of p) →
      sinks.held p.master.sink ≡ at.before ++ head_bytes at.session p.journal.room ++ flat_map (entry_bytes at.session edits samples) (seen_entries p.journal.items)
      ++ end_bytes at.session p.journal.room (length p.journal.items)

  -- The write of the end failed: a front of it was written.
  pub record IsCutAtEnd (sinks : SinkOutside W) (at : Playing) (p : ProcessState I W) : Type 0 where
    pub before : ProcessState I W
    pub mastered : IsMastered sinks at before
    pub same : p ≡ record before { master = record before.master { sink = p.master.sink } }
    pub front : sinks.tells → AppendsSome (sinks.held before.master.sink) (sinks.held p.master.sink) (end_bytes at.session p.journal.room (length p.journal.items))
