-- What is so of a run between two letters, whatever has failed.
use Rattle.std.specs.Prelude.{◌≡◌, ◌⊎◌, true, false, [], length, Result}
use Rattle.ses_io.specs.Outside.{MediaOutside, SourceOutside, SinkOutside, Writes}
use Rattle.input_blocks.specs.State.{InputState, IsReadTo, IsCutShort}
use Rattle.master_blocks.specs.Bytes.{end_bytes}
use Rattle.process_cycle.specs.declared.fault.CycleFault.{CycleFault}
use Rattle.process_cycle.specs.Promised.{IsMastered}
use Rattle.worker_pair.specs.declared.pair.Pair.{Pair}
use Rattle.worker_pair.specs.Begun.{at_first, playing_at}
use Rattle.worker_pair.specs.Plays.{OnlyTheMaster}
use Rattle.worker_pair.specs.Runs.{HearsInput, Rests, Runs}
use Rattle.engine_core.specs.declared.run.Run.{Run}
use Rattle.run_end.specs.Failures.{has_stopped, after_cycle}
use Rattle.run_end.specs.Started.{Started}
use Rattle.engine_core.specs.Now.{now_of, AreCounted}
use Rattle.run_end.specs.Depths.{HaveDepths}
use Rattle.process_cycle.specs.CutOff.{IsCutAtHead, IsCutInCycle, IsCutAtEnd, HoldsAll}

module _ {V I W : Type 0} where
  -- The workers did nothing yet, and have what the run began with.
  pub record IsFresh (media : MediaOutside V) (inputs : SourceOutside I) (sinks : SinkOutside W) (on : Started V I W) (p : Pair V I W) : Type 0 where
    pub runs : Runs media inputs sinks (at_first on.begun) p
    pub none : p.process.journal.items ≡ []
    pub not_entered : p.butler.entered ≡ 0
    pub not_looked : p.process.entered ≡ 0
    pub shut : p.in_cycle ≡ false
    pub media_is : p.butler.media ≡ on.media
    pub opened : p.butler.sources.opened ≡ on.opened
    pub input_is : p.process.input.input ≡ on.input
    pub stream_is : p.process.input.stream ≡ on.stream
    pub master_is : p.process.master.sink ≡ on.master
    pub held : sinks.held on.master ≡ on.begun.before
    pub none_read : p.butler.hushed ≡ false
    pub none_written : p.butler.write_failed ≡ false

  -- This is the input of the run: its stream is the one that was told of, in blocks of the session's frames.
  pub record IsInputOf (on : Started V I W) (x : InputState I) : Type 0 where
    pub stream : x.stream ≡ on.stream
    pub block : x.block ≡ on.begun.session.block
    -- a stream that has no frames is asked for nothing
    pub untouched : on.stream.frames ≡ 0 → x.input ≡ on.input

  -- A read of the input failed: it had given the blocks of the entries, and lost less than one more.
  pub record InputIsShort (inputs : SourceOutside I) (on : Started V I W) (r : Run V I W) : Type 0 where
    -- the input as it was before that read
    pub before : InputState I
    pub of : IsInputOf on before
    pub read : IsReadTo inputs (record { start = on.begun.start; blocks = length r.pair.process.journal.items }) before
    pub lost : IsCutShort inputs before r.pair.process.input

  -- **A run is under way**, and its master was begun.
  pub record IsUnderWay (media : MediaOutside V) (inputs : SourceOutside I) (sinks : SinkOutside W) (on : Started V I W) (r : Run V I W) : Type 0 where
    pub rests : Rests media (now_of on r) r.pair
    -- while the process hasn't stopped both workers run; once it has, no cycle is open
    pub runs : has_stopped r.failed ≡ false → Runs media inputs sinks (now_of on r) r.pair
    pub shut : has_stopped r.failed ≡ true → r.pair.in_cycle ≡ false
    pub counts : AreCounted media inputs sinks on r
    pub opened : r.pair.butler.sources.opened ≡ on.opened
    -- what was captured is of one sound, which is the input's where it tells
    pub hears : HearsInput inputs (now_of on r) r.pair
    -- the master holds its header and a block for each entry, or it was cut off: in its header, or in a cycle by the edits of this run
    pub mastered : r.failed.master ≡ false → IsMastered sinks (playing_at (now_of on r)) r.pair.process
    pub cut : r.failed.master ≡ true → IsCutAtHead inputs sinks (playing_at (now_of on r)) r.pair.process ⊎ IsCutInCycle inputs sinks (playing_at (now_of on r)) r.pair.process
    -- its input is that of the run, and gave the blocks of the entries where a read of it failed
    pub input : IsInputOf on r.pair.process.input
    pub input_short : r.failed.input ≡ true → InputIsShort inputs on r
    -- the rings have their depths
    pub depths : HaveDepths on.begun.session r.pair.process.ends

  -- Its end was given to the master: all of it, or where a write failed a front.
  pub record EndsMaster (sinks : SinkOutside W) (on : Started V I W) (old new : Run V I W) : Type 0 where
    pub answer : Result (Unit {0}) CycleFault
    pub writes : Writes sinks (end_bytes on.begun.session old.pair.process.journal.room (length old.pair.process.journal.items)) old.pair.process.master.sink new.pair.process.master.sink answer
    pub failed : new.failed ≡ after_cycle answer old.failed

  -- **The master of a run was ended.**
  pub record IsWritten (media : MediaOutside V) (inputs : SourceOutside I) (sinks : SinkOutside W) (on : Started V I W) (old new : Run V I W) : Type 0 where
    -- nothing but the master changed
    pub only : OnlyTheMaster old.pair new.pair
    pub rests : Rests media (now_of on new) new.pair
    pub counts : AreCounted media inputs sinks on new
    -- what was captured, and how the input was read, are as they were
    pub hears : HearsInput inputs (now_of on new) new.pair
    pub input : IsInputOf on new.pair.process.input
    pub input_short : new.failed.input ≡ true → InputIsShort inputs on new
    pub failed : new.failed ≡ record old.failed { master = new.failed.master }
    -- nothing at all where a write of it had failed; else its end was written
    pub stays : old.failed.master ≡ true → new ≡ old
    pub ends : old.failed.master ≡ false → EndsMaster sinks on old new
    -- it holds header, blocks and end, or it was cut off
    pub whole : new.failed.master ≡ false → sinks.tells → HoldsAll sinks (playing_at (now_of on new)) new.pair.process
    pub cut : new.failed.master ≡ true → (IsCutAtHead inputs sinks (playing_at (now_of on new)) new.pair.process ⊎ IsCutInCycle inputs sinks (playing_at (now_of on new)) new.pair.process) ⊎ IsCutAtEnd sinks (playing_at (now_of on new)) new.pair.process
