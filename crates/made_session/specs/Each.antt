-- What is made of each number, and lists with a room.
use Rattle.std.specs.Prelude.{ℕ, List, map}
use Rattle.std.specs.List.{range_with_len}
use Rattle.ses_io.specs.FixedList.{Listed}

-- what is made of each number below n, in order
unfoldable pub each_below : {X : Type 0} → (ℕ → X) → ℕ → List X
each_below f n = map f (range_with_len 0 n)

-- these items, in a list that has so much room
abbrev pub listed : {X : Type 0} → ℕ → List X → Listed X
listed room items = record { items = items; room = room }
