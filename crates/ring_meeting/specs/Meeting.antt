-- What a meeting of the butler's ends asks and leaves, as the holder of the other ends says it.
use Rattle.piece_item.specs.declared.butler_ends.ButlerEnds.{ButlerEnds}

-- said of the holder and of the butler's ends
pub record Meeting (H : Type 0) : Type 1 where
  -- when each pair of ends may meet
  pub may : H → ButlerEnds → Type 0
  -- when they may where only those of playback rings have something to tell
  pub may_plays : H → ButlerEnds → Type 0
  -- what a meeting leaves of both, by what they were
  pub meets : H → ButlerEnds → H → ButlerEnds → Type 0
