-- What is so of the process's thread between two cycles, by its own lists alone.
use Rattle.std.specs.Prelude.{◌≡◌, ◌<◌, ◌≤◌, ℕ, true, List, length, take, Option, Some, None, Err}
use mathlib.Core.List.{IsPrefix}
use Rattle.session_model.specs.declared.edit.Edit.{Edit}
use Rattle.ses_io.specs.Outside.{SourceOutside, SinkOutside}
use Rattle.cycle_journal.specs.JournalView.{seen_entries}
use Rattle.master_blocks.specs.State.{IsMasterOf}
use Rattle.process_cycle.specs.Captured.{Hears}
use Rattle.process_cycle.specs.ProcessState.{Playing, ProcessState, entered, entries_of, sound_of}
use Rattle.process_cycle.specs.Playing.{IsPlaying}
use Rattle.process_cycle.specs.Promised.{IsMastered, Promises}
use Rattle.route_lists.specs.Lists.{IsReaderOf}
use Rattle.cycle_grants.specs.Grants.{grants_in, newest}
use Rattle.cycle_grants.specs.Allowed.{KeepsAllowances, MayMake}
use Rattle.play_worker.specs.declared.told.Told.{Told}
use Rattle.play_worker.specs.declared.worker.PlayWorker.{PlayWorker}
use Rattle.play_worker.specs.declared.worker.Ended.{Ended}
use Rattle.play_worker.specs.declared.worker.Ended.TheVariants.{All, Quit, Refused, Stopped}
use Rattle.process_cycle.specs.declared.fault.CycleFault.{CycleFault}
use Rattle.play_worker.specs.Cycle.{PlaysCycle}
use Rattle.play_worker.specs.Patient.{IsPatient}

module _ {I W : Type 0} where
  -- the edits of the edition in which it looked last, by its own number
  abbrev pub given_last : PlayWorker I W → List Edit
  given_last w = take w.process.entered w.reader.edition.edits

  -- what it was given at first, and those edits
  abbrev pub at_now : SourceOutside I → SinkOutside W → PlayWorker I W → Playing
  at_now inputs sinks w = record { session = w.told.session.value; edits = given_last w; start = inputs.left w.told.input.value; before = sinks.held w.told.sink.value }

  -- how many entries it made
  abbrev pub made_by : PlayWorker I W → ℕ
  made_by w = length w.process.journal.items

  -- no call of the input or of the master has failed since the start, and a stream that has no frames was asked for nothing
  pub record IsUnfailed (inputs : SourceOutside I) (sinks : SinkOutside W) (told : Told I W) (p : ProcessState I W) : Type 0 where
    pub input : inputs.faults p.input.input ≡ inputs.faults told.input.value
    pub master : sinks.faults p.master.sink ≡ sinks.faults told.sink.value
    pub untouched : p.input.stream.frames ≡ 0 → p.input.input ≡ told.input.value

  -- **The process plays on**: it keeps its promises by the edits that it saw, each entry was allowed, and each piece that wasn't there was looked for with patience.
  pub record PlaysAt (patience : ℕ) (inputs : SourceOutside I) (sinks : SinkOutside W) (at : Playing) (w : PlayWorker I W) : Type 0 where
    pub reader_of : IsReaderOf at.session w.reader
    -- the edits in which it looked last are the first of those that it sees
    pub begins : IsPrefix at.edits w.reader.edition.edits
    pub playing : IsPlaying inputs at w.process
    pub mastered : IsMastered sinks at w.process
    pub patient : IsPatient patience at w.process
    pub allowed : KeepsAllowances patience (seen_entries w.process.journal.items) w.grants
    pub unfailed : IsUnfailed inputs sinks w.told w.process

  -- one more cycle may be made in the edition that it sees
  pub record MayCycle (w : PlayWorker I W) : Type 0 where
    pub room : made_by w < w.process.journal.room
    pub may : MayMake (made_by w) w.grants
    pub new : newest (grants_in w.grants.from) ≤ length w.reader.edition.edits

  -- it plays on by its own number
  abbrev pub Plays : ℕ → SourceOutside I → SinkOutside W → PlayWorker I W → Type 0
  Plays patience inputs sinks w = PlaysAt patience inputs sinks (at_now inputs sinks w) w

  -- **No further cycle is made**, whatever has failed: the process keeps its promises, and patience and allowances are kept.
  pub record RestsAt (patience : ℕ) (inputs : SourceOutside I) (at : Playing) (w : PlayWorker I W) : Type 0 where
    pub reader_of : IsReaderOf at.session w.reader
    pub begins : IsPrefix at.edits w.reader.edition.edits
    pub numbered : w.process.entered ≡ length at.edits
    pub promises : Promises at (entries_of w.process) w.process.ends
    pub hears : Hears inputs.tells (sound_of at w.process) at.session (entries_of w.process) w.process.ends.takes.items
    pub master_of : IsMasterOf at.session w.process.master
    pub cycles : w.process.journal.room ≤ 100000
    pub patient : IsPatient patience at w.process
    pub allowed : KeepsAllowances patience (seen_entries w.process.journal.items) w.grants

  -- which cycle that was, and how input and master stand
  pub record Stops (patience : ℕ) (inputs : SourceOutside I) (sinks : SinkOutside W) (at : Playing) (why : CycleFault) (w : PlayWorker I W) : Type 0 where
    -- before it the process played on, by the edits in which it looked last by then
    pub before : PlayWorker I W
    pub was : List Edit
    pub plays : PlaysAt patience inputs sinks (entered was at) before
    pub may : MayCycle before
    -- and in the edition that it saw the cycle failed
    pub given : before.reader.edition.edits ≡ at.edits
    pub cycle : PlaysCycle inputs sinks (entered was at) patience before.reader.edition before.process (Err why) w.process
    pub same : w ≡ record before { process = w.process }

  -- what a step leaves, by why no further cycle is made, if none is; `at` is what it plays by then
  abbrev pub StepLeaves : ℕ → SourceOutside I → SinkOutside W → Playing → Option Ended → PlayWorker I W → Type 0
  StepLeaves patience inputs sinks at None w = PlaysAt patience inputs sinks at w
  StepLeaves patience inputs sinks at (Some All) w = PlaysAt patience inputs sinks at w × (made_by w ≡ w.process.journal.room)
  StepLeaves patience inputs sinks at (Some Quit) w = PlaysAt patience inputs sinks at w × (w.reader.edition.transport.quit ≡ true)
  StepLeaves patience inputs sinks at (Some Refused) w = PlaysAt patience inputs sinks at w
  StepLeaves patience inputs sinks at (Some (Stopped why)) w = RestsAt patience inputs at w × Stops patience inputs sinks at why w
