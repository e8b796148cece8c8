-- What a region asks of a reader of frames, and what reading leaves of it.
use Rattle.std.specs.Prelude.{◌≡◌, ℕ, ◌<◌, List, length, slice_index, Result}
use Rattle.ses_io.specs.Faults.{HasCause}
use Rattle.sound_model.specs.Regions.{Region}
use Rattle.session_model.specs.Frames.{FramesOutside}

-- the region's source is among those with these channels, and has so many
pub record HasSource (sources : List ℕ) (channels : ℕ) (r : Region) : Type 0 where
  pub there : r.source < length sources
  pub same : slice_index sources r.source ≡ channels

-- A reader after calls that read.
pub record IsRead {S R T E : Type 0} (outside : FramesOutside S) (others : S → R) (old new : S) (result : Result T E) : Type 0 where
  -- its sources have the same channels
  pub channels : outside.channels new ≡ outside.channels old
  -- and where it tells their frames, the same frames
  pub kept : outside.tells old → outside.frames new ≡ outside.frames old
  -- it tells if it told
  pub tells : outside.tells old → outside.tells new
  -- what it leaves alone is as it was
  pub rest : others new ≡ others old
  -- a fault comes only where the count rose
  pub cause : HasCause (outside.faults old) (outside.faults new) result
