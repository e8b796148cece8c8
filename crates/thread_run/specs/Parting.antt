-- When all of a play may be given back, whether its readers were tied to the list or not.
use Rattle.std.specs.Prelude.{◌≡◌, length}
use Rattle.ses_io.specs.Outside.{MediaOutside}
use Rattle.process_ends.specs.Ends.{AreOtherEnds}
use Rattle.worker_pair.specs.declared.ending.Ending.{Ending}
use Rattle.worker_pair.specs.declared.ending.Stopped.{Stopped}
use Rattle.run_end.specs.declared.failures.Failures.{Failures}
use Rattle.run_end.specs.Failures.{IsFaultCount}
use Rattle.run_end.specs.Started.{Started}

-- The rings may be joined, and each count of faults of the media rose exactly where it is noted.
pub record MayGiveUp {V I W : Type 0} (media : MediaOutside V) (on : Started V I W) (ending : Ending V) (stopped : Stopped I W) (failed : Failures) : Type 0 where
  pub others : AreOtherEnds ending.ends ending.butler.ends
  pub sends : length ending.butler.ends.sends.items ≡ length on.begun.session.tracks.items
  pub takes : length ending.ends.takes.items ≡ length on.begun.session.tracks.items
  pub control : stopped.acks.ring ≡ ending.ends.to_control.ring
  pub reads : IsFaultCount (media.read_faults on.media) (media.read_faults ending.butler.media) failed.read
  pub writes : IsFaultCount (media.write_faults on.media) (media.write_faults ending.butler.media) failed.write
