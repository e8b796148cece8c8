-- What a run gives back at its end, and what has failed by then.
use Rattle.std.specs.Prelude.{◌≡◌, true, []}
use Rattle.ses_io.specs.Outside.{MediaOutside, SourceOutside, SinkOutside}
use Rattle.engine_core.specs.declared.run.Run.{Run}
use Rattle.run_end.specs.Failures.{IsFaultCount}
use Rattle.run_end.specs.Started.{Started}
use Rattle.engine_core.specs.UnderWay.{IsWritten}
use Rattle.run_end.specs.declared.parting.RunEnd.{RunEnd}

module _ {V I W : Type 0} where
  -- **The master of the run was ended, and what the run had is given back.**
  pub record GivesBack (media : MediaOutside V) (inputs : SourceOutside I) (sinks : SinkOutside W) (on : Started V I W) (run : Run V I W) (ended : RunEnd V I W) : Type 0 where
    -- the run once its master was ended
    pub written : Run V I W
    pub is_written : IsWritten media inputs sinks on run written
    -- its master, and what has failed of that and of the input
    pub master : ended.master ≡ written.pair.process.master.sink
    pub master_failed : ended.failed.master ≡ written.failed.master
    pub input_failed : ended.failed.input ≡ run.failed.input
    -- the input, the entries and the accepted edits
    pub input : ended.input ≡ run.pair.process.input.input
    pub journal : ended.journal ≡ run.pair.process.journal
    pub edits : ended.edits.items ≡ run.pair.edition.edits
    -- control took nothing from its ring
    pub none_taken : ended.acks.received ≡ []

  -- **Each count of faults rose exactly where it is noted**, and what had failed before the end has failed.
  pub record AllAreCounted (media : MediaOutside V) (inputs : SourceOutside I) (sinks : SinkOutside W) (on : Started V I W) (run : Run V I W) (ended : RunEnd V I W) : Type 0 where
    pub reads : IsFaultCount (media.read_faults on.media) (media.read_faults ended.media) ended.failed.read
    pub writes : IsFaultCount (media.write_faults on.media) (media.write_faults ended.media) ended.failed.write
    pub inputs_are : IsFaultCount (inputs.faults on.input) (inputs.faults ended.input) ended.failed.input
    pub masters : IsFaultCount (sinks.faults on.master) (sinks.faults ended.master) ended.failed.master
    pub read_still : run.failed.read ≡ true → ended.failed.read ≡ true
    pub write_still : run.failed.write ≡ true → ended.failed.write ≡ true
