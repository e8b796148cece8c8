-- A count of faults, and what ties the answer Failed to it.
use Rattle.std.specs.Prelude.{◌≡◌, ℕ, ◌+◌, ◌-◌, ◌^◌, ◌≤◌, min, Result, OnOk, OnErr}
use Rattle.ses_io.specs.declared.errors.Failed.{Failed}
use Rattle.ses_io.specs.declared.errors.NoMemory.{NoMemory}

-- the one value of each plain error
abbrev pub failed : Failed
failed = record {}

abbrev pub no_memory : NoMemory
no_memory = record {}

-- a count of 64 bits, raised by one: it stands still at its end
abbrev pub risen : ℕ → ℕ
risen count = min (count + 1) (2 ^ 64 - 1)

-- What a call did to the count of faults that it stands under.
pub record HasCause {T E : Type 0} (before now : ℕ) (result : Result T E) : Type 0 where
  -- the count never falls
  pub later : before ≤ now
  -- at Ok it is as it was
  pub kept : OnOk result (now ≡ before)
  -- a fault is answered only where it rose
  pub rose : OnErr result (risen before ≤ now)
