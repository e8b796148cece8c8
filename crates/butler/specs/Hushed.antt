-- A butler that is told to send nothing any more.
use Rattle.std.specs.Prelude.{◌≡◌, true}
use Rattle.read_ahead.specs.AllServes.{AreShut}
use Rattle.butler.specs.ButlerState.{ButlerState}

pub record Hushes {V : Type 0} (old new : ButlerState V) : Type 0 where
  -- each playback ring is closed
  pub shut : AreShut old.ends.sends.items new.ends.sends.items
  pub room : new.ends.sends.room ≡ old.ends.sends.room
  -- and nothing else has changed but that this is noted
  pub same : new ≡ record old { ends = record old.ends { sends = new.ends.sends }; hushed = true }
