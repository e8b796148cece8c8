-- What a meeting with the butler's ends leaves of a process.
use Rattle.std.specs.Prelude.{◌≡◌}
use Rattle.ses_io.specs.Outside.{SourceOutside, SinkOutside}
use Rattle.piece_item.specs.declared.butler_ends.ButlerEnds.{ButlerEnds}
use Rattle.process_ends.specs.Ends.{EndsMeet}
use Rattle.process_cycle.specs.Looked.{HasLooked}
use Rattle.process_cycle.specs.Playing.{IsPlaying}
use Rattle.process_cycle.specs.ProcessState.{ProcessState, Playing}
use Rattle.process_cycle.specs.Promised.{IsMastered}

-- Nothing but its ends changes; each end and the butler's of the same ring told each other what they knew.
pub record MeetsOthers {I W : Type 0} (inputs : SourceOutside I) (sinks : SinkOutside W) (old : ProcessState I W) (theirs : ButlerEnds) (new : ProcessState I W) (theirs_now : ButlerEnds) : Type 0 where
  pub same : new ≡ record old { ends = new.ends }
  pub ends : EndsMeet old.ends theirs new.ends theirs_now
  -- by whatever it plays, it plays on, as it had looked and with the master that it had
  pub playing : (at : Playing) → IsPlaying inputs at old → IsPlaying inputs at new
  pub looked : (at : Playing) → HasLooked at old → HasLooked at new
  pub master : (at : Playing) → IsMastered sinks at old → IsMastered sinks at new
