-- What the process's thread begins with, and what it leaves, whatever has failed.
use Rattle.std.specs.Prelude.{◌≡◌, ◌⊎◌, ℕ, Bool, true, false, [], length, Result, Ok, Err}
use Rattle.ses_io.specs.Faults.{HasCause}
use Rattle.ses_io.specs.Outside.{SourceOutside, SinkOutside}
use Rattle.input_blocks.specs.State.{InputState, IsReadTo, IsCutShort}
use Rattle.process_ends.specs.Ends.{shut_ends}
use Rattle.process_cycle.specs.declared.fault.CycleFault.{CycleFault}
use Rattle.process_cycle.specs.declared.fault.CycleFault.TheVariants.{InputFault, MasterFault}
use Rattle.process_cycle.specs.CutOff.{HoldsAll, IsCutAtEnd, IsCutAtHead, IsCutInCycle}
use Rattle.process_cycle.specs.Playing.{IsPlaying, IsReadSoFar}
use Rattle.process_cycle.specs.ProcessState.{Playing, ProcessState}
use Rattle.process_cycle.specs.Promised.{IsMastered}
use Rattle.route_lists.specs.Lists.{IsReaderOf}
use Rattle.play_worker.specs.declared.playing.Played.{Played}
use Rattle.play_worker.specs.declared.worker.PlayWorker.{PlayWorker}
use Rattle.play_worker.specs.declared.worker.Ended.{Ended}
use Rattle.play_worker.specs.declared.worker.Ended.TheVariants.{All, Quit, Refused, Stopped}
use Rattle.play_worker.specs.Kept.{KeepsRun}
use Rattle.play_worker.specs.Plays.{RestsAt, at_now, made_by}

-- what the calls of the input answered together, by why no further cycle was made, and those of the master before its end
abbrev pub input_answered : Ended → Result (Unit {0}) CycleFault
input_answered (Stopped InputFault) = Err InputFault
input_answered (Stopped MasterFault) = Ok tt
input_answered All = Ok tt
input_answered Quit = Ok tt
input_answered Refused = Ok tt

abbrev pub master_answered : (cut_off : Bool) → Result (Unit {0}) CycleFault
master_answered true = Err MasterFault
master_answered false = Ok tt

-- whether a write of the master failed before its end
abbrev pub is_cut : Ended → Bool
is_cut (Stopped MasterFault) = true
is_cut (Stopped InputFault) = false
is_cut All = false
is_cut Quit = false
is_cut Refused = false

module _ {I W : Type 0} where
  -- what it was given at first, and no edit
  abbrev pub first_at : SourceOutside I → SinkOutside W → PlayWorker I W → Playing
  first_at inputs sinks w = record { session = w.told.session.value; edits = []; start = inputs.left w.told.input.value; before = sinks.held w.told.sink.value }

  -- The process did nothing yet: it has the input and the master that it was given at first.
  pub record IsReady (inputs : SourceOutside I) (sinks : SinkOutside W) (w : PlayWorker I W) : Type 0 where
    pub reader_of : IsReaderOf w.told.session.value w.reader
    pub playing : IsPlaying inputs (first_at inputs sinks w) w.process
    pub none : w.process.journal.items ≡ []
    pub input_is : w.process.input.input ≡ w.told.input.value
    pub sink_is : w.process.master.sink ≡ w.told.sink.value
    pub waits : w.grants.waits ≡ true

  -- ---- by why no further cycle was made

  abbrev pub IsWhy : Ended → PlayWorker I W → Type 0
  IsWhy All w = made_by w ≡ w.process.journal.room
  IsWhy Quit w = w.reader.edition.transport.quit ≡ true
  IsWhy Refused w = Unit {0}
  IsWhy (Stopped why) w = Unit {0}

  -- A read of the input failed: it had given the block of each entry, and lost less than one more.
  pub record FellShort (inputs : SourceOutside I) (at : Playing) (p : ProcessState I W) : Type 0 where
    pub before : InputState I
    pub read : IsReadTo inputs (record { start = at.start; blocks = length p.journal.items }) before
    pub stream : p.input.stream ≡ before.stream
    pub block : p.input.block ≡ before.block
    pub lost : IsCutShort inputs before p.input

  -- The input gave the block of each entry. Where a write of the master failed, how it was cut off says that.
  abbrev pub InputGives : SourceOutside I → Playing → Ended → ProcessState I W → Type 0
  InputGives inputs at (Stopped InputFault) p = FellShort inputs at p
  InputGives inputs at (Stopped MasterFault) p = Unit {0}
  InputGives inputs at All p = IsReadSoFar inputs at p
  InputGives inputs at Quit p = IsReadSoFar inputs at p
  InputGives inputs at Refused p = IsReadSoFar inputs at p

  -- the master before its end: it holds header and blocks, or was cut off in its header or in a cycle
  abbrev pub MasterStands : SourceOutside I → SinkOutside W → Playing → (cut : Bool) → ProcessState I W → Type 0
  MasterStands inputs sinks at true p = IsCutAtHead inputs sinks at p ⊎ IsCutInCycle inputs sinks at p
  MasterStands inputs sinks at false p = IsMastered sinks at p

  -- and at its end: whole, or cut off, in its header or in a cycle, else in its end
  abbrev pub MasterIsLeft : SourceOutside I → SinkOutside W → Playing → (cut cut_off : Bool) → ProcessState I W → Type 0
  MasterIsLeft inputs sinks at true cut_off p = (cut_off ≡ true) × (IsCutAtHead inputs sinks at p ⊎ IsCutInCycle inputs sinks at p)
  MasterIsLeft inputs sinks at false true p = IsCutAtEnd sinks at p
  MasterIsLeft inputs sinks at false false p = sinks.tells → HoldsAll sinks at p

  -- what was asked of the input, and whether a call of it has failed
  pub record AsksItsInput (inputs : SourceOutside I) (at : Playing) (ended : Ended) (w : PlayWorker I W) : Type 0 where
    pub gives : InputGives inputs at ended w.process
    pub faults : HasCause (inputs.faults w.told.input.value) (inputs.faults w.process.input.input) (input_answered ended)
    -- a stream that has no frames was asked for nothing
    pub untouched : w.process.input.stream.frames ≡ 0 → w.process.input.input ≡ w.told.input.value

  -- **No further cycle is made**, by why, but the master isn't ended yet.
  pub record PlaysNoMore (patience : ℕ) (inputs : SourceOutside I) (sinks : SinkOutside W) (at : Playing) (ended : Ended) (w : PlayWorker I W) : Type 0 where
    pub rests : RestsAt patience inputs at w
    pub why : IsWhy ended w
    pub input : AsksItsInput inputs at ended w
    pub master : MasterStands inputs sinks at (is_cut ended) w.process
    pub master_faults : HasCause (sinks.faults w.told.sink.value) (sinks.faults w.process.master.sink) (master_answered (is_cut ended))

  -- **The master was ended**, unless a write of it had failed before, and nothing else has changed.
  pub record EndsMaster (inputs : SourceOutside I) (sinks : SinkOutside W) (at : Playing) (ended : Ended) (old : PlayWorker I W) (cut_off : Bool) (new : PlayWorker I W) : Type 0 where
    pub same : new ≡ record old { process = record old.process { master = record old.process.master { sink = new.process.master.sink } } }
    pub master : MasterIsLeft inputs sinks at (is_cut ended) cut_off new.process
    pub faults : HasCause (sinks.faults old.told.sink.value) (sinks.faults new.process.master.sink) (master_answered cut_off)

  -- ---- what the thread leaves

  -- it gives back what the worker had at its end, with the rings closed that it put into
  pub record GivesBack (w : PlayWorker I W) (r : Played I W) : Type 0 where
    pub reader : r.reader ≡ w.reader
    pub grants : r.grants.from ≡ w.grants.from
    pub told : r.told ≡ w.told
    pub input : r.process.input ≡ w.process.input.input
    pub master : r.process.master ≡ w.process.master.sink
    pub journal : r.process.journal ≡ w.process.journal
    pub ends : r.process.ends ≡ shut_ends w.process.ends

  -- **The process has ended**, whatever has failed: it keeps its promises, by the edits of the edition in which it looked last.
  pub record PlayLeaves (patience : ℕ) (inputs : SourceOutside I) (sinks : SinkOutside W) (old : PlayWorker I W) (r : Played I W) : Type 0 where
    -- the worker at its end
    pub last : PlayWorker I W
    pub gives : GivesBack last r
    pub keeps : KeepsRun old.process last.process
    pub rests : RestsAt patience inputs (at_now inputs sinks last) last
    pub why : IsWhy r.ended last
    pub input : AsksItsInput inputs (at_now inputs sinks last) r.ended last
    pub master : MasterIsLeft inputs sinks (at_now inputs sinks last) (is_cut r.ended) r.cut_off last.process
    pub master_faults : HasCause (sinks.faults last.told.sink.value) (sinks.faults last.process.master.sink) (master_answered r.cut_off)
