-- What contracts see of a pass over the tracks.
use Rattle.std.specs.Prelude.{ℕ}
use Rattle.edition_log.specs.EditionState.{EditionState as Edition}

pub record PassState : Type 0 where
  -- the edition that was entered
  pub edition : Edition
  -- the next block of its generation that is played
  pub next : ℕ
  -- how many cycles were asked
  pub cycles : ℕ
