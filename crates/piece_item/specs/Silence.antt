-- Samples of nothing.
use Rattle.std.specs.Prelude.{ℕ, ℤ, pos, List, replicate}
use Rattle.ses_io.specs.FixedList.{Listed}

-- so many samples of 0
abbrev pub zeros : ℕ → List ℤ
zeros count = replicate count (pos 0)

-- they, in a list with no more room
abbrev pub silence_of : ℕ → Listed ℤ
silence_of count = record { items = zeros count; room = count }
