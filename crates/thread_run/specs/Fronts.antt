-- What take files hold after a play on threads, whatever was wanted.
use Rattle.std.specs.Prelude.{◌≡◌}
use Rattle.ses_io.specs.Outside.{MediaOutside, SourceOutside}
use Rattle.cycle_journal.specs.JournalView.{seen_entries}
use Rattle.engine_model.specs.Takes.{Input}
use Rattle.capture_flush.specs.Finished.{AreTakesInPart}
use Rattle.input_blocks.specs.Rest.{rest_sound}
use Rattle.run_end.specs.declared.parting.RunEnd.{RunEnd}
use Rattle.run_end.specs.Started.{Started}
use Rattle.run_end.specs.Takes.{recorded_of}

-- **No file but those of takes has changed, and each take that the journal names has a front of its sound**, or no file yet.
pub record LeavesFronts {V I W : Type 0} (media : MediaOutside V) (inputs : SourceOutside I) (on : Started V I W) (ended : RunEnd V I W) : Type 0 where
  -- some sound, which is the input's own where it tells
  pub input : Input
  pub told_so : inputs.tells → input ≡ rest_sound on.stream on.begun.start
  pub in_part : AreTakesInPart (recorded_of on.begun input) (seen_entries ended.journal.items) (media.files ended.media)
