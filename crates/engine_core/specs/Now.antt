-- Where a run on one thread stands, and what has failed of it by now.
use Rattle.std.specs.Prelude.{◌≡◌, Bool, true, ◌||◌, nat_le, length}
use Rattle.ses_io.specs.Outside.{MediaOutside, SourceOutside, SinkOutside}
use Rattle.worker_pair.specs.Begun.{At}
use Rattle.worker_pair.specs.Runs.{at_now}
use Rattle.run_end.specs.Failures.{IsFaultCount, has_stopped}
use Rattle.run_end.specs.Started.{Started}
use Rattle.engine_core.specs.declared.run.Run.{Run}

module _ {V I W : Type 0} where
  -- where a run stands once its header was written, or a front of it
  abbrev pub now_of : Started V I W → Run V I W → At
  now_of on r = at_now on.begun true r.pair

  -- the process makes no further cycle: all were made, it has entered a quit, or it has stopped
  abbrev pub is_played_out : Run V I W → Bool
  is_played_out r = has_stopped r.failed || (nat_le r.pair.process.journal.room (length r.pair.process.journal.items) || r.pair.playing.transport.quit)

  -- each count of faults rose exactly where it is noted
  pub record AreCounted (media : MediaOutside V) (inputs : SourceOutside I) (sinks : SinkOutside W) (on : Started V I W) (r : Run V I W) : Type 0 where
    pub reads : IsFaultCount (media.read_faults on.media) (media.read_faults r.pair.butler.media) r.failed.read
    pub writes : IsFaultCount (media.write_faults on.media) (media.write_faults r.pair.butler.media) r.failed.write
    pub inputs_are : IsFaultCount (inputs.faults on.input) (inputs.faults r.pair.process.input.input) r.failed.input
    pub masters : IsFaultCount (sinks.faults on.master) (sinks.faults r.pair.process.master.sink) r.failed.master
    -- and butler and process know of it
    pub butler_reads : r.pair.butler.hushed ≡ r.failed.read
    pub butler_writes : r.pair.butler.write_failed ≡ r.failed.write
