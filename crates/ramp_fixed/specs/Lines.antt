-- A line of whole numbers: what it has reached after so many frames, and what is left over.
use Rattle.std.specs.Prelude.{◌≡◌, ℕ, ◌+◌, ◌*◌, ◌^◌, ◌<◌}
use Rattle.ramp_fixed.specs.declared.line.Line.{Line}

-- the line that rises by `rise` over its `over` frames stands k frames on from `lift` parts of `over`
pub record IsOnLine (line : Line) (rise lift k : ℕ) : Type 0 where
  pub step : line.step * line.over + line.more ≡ rise
  pub more : line.more < line.over
  pub value : line.value * line.over + line.rest ≡ rise * k + lift
  pub rest : line.rest < line.over

-- a frame more overflows nothing
pub record IsSmall (line : Line) : Type 0 where
  pub value : line.value < 2 ^ 62
  pub step : line.step < 2 ^ 62
  pub rest : line.rest < 2 ^ 62
  pub more : line.more < 2 ^ 62
