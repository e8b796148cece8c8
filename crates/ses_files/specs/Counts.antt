-- What contracts see of a folder of the system.
use Rattle.std.specs.Prelude.{ℕ}

-- how many of its calls failed
pub record Counts : Type 0 where
  pub read_faults : ℕ
  pub write_faults : ℕ
