-- The table of the acknowledgements taken: of each generation the greatest next block.
use Rattle.std.specs.Prelude.{◌≡◌, ℕ, ◌<◌, List, ◌∷◌, [], ◌++◌, length, slice_index_or}
use Rattle.engine_model.specs.Due.{Ack, next_block}

pub record IsTable (nexts : List ℕ) (acks : List Ack) : Type 0 where
  -- one more generation than there are edits
  pub generations : length nexts ≡ 10001
  pub each : (g : ℕ) → g < length nexts → slice_index_or nexts g 0 ≡ next_block acks g

-- an acknowledgement was noted: what was the table of some is that of them and this one
abbrev pub Notes : Ack → List ℕ → List ℕ → Type 0
Notes ack old new = (acks : List Ack) → IsTable old acks → IsTable new (acks ++ ack ∷ [])
