-- The line of a made session.
use Rattle.std.specs.Prelude.{ℕ, ℤ, List, ◌++◌, codes, decimal}
use Rattle.std.specs.Fmt.{signed_decimal}

-- the number that it is made from, its tracks, the regions of each, the cycles of its export, and a sum
unfoldable pub line_of : ℕ → ℕ → ℕ → ℤ → List ℕ
line_of n tracks regions sum = codes "gen " ++ decimal n ++ codes " tracks " ++ decimal tracks ++ codes " regions " ++ decimal regions
    ++ codes " cycles 256 sum " ++ signed_decimal sum ++ codes "\n"
