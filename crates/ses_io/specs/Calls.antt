-- Which calls of an object in memory fail.
use Rattle.std.specs.Prelude.{ℕ, Bool, ◌==◌, List}
use Rattle.std.specs.List.{list_any}
use Rattle.ses_io.specs.Faults.{risen}

-- the calls that were made so far, and the numbers, from 1, of those that fail
pub record PlannedCalls : Type 0 where
  pub calls : ℕ
  pub fails : List ℕ

-- after one call more
abbrev pub counted : PlannedCalls → PlannedCalls
counted plan = record plan { calls = risen plan.calls }

-- the next call fails
abbrev pub fails_next : PlannedCalls → Bool
fails_next plan = list_any (λ n. n == risen plan.calls) plan.fails
