-- A list that never grows past its room.
use Rattle.std.specs.Prelude.{ℕ, ◌-◌, ◌^◌, min, List, Vec, ◌++◌, length, take, drop, vec_capacity}
use Rattle.std.specs.declared.alloc.Global.{Global}

-- its items, and how many it has room for
pub record Listed (T : Type 0) : Type 0 where
  pub items : List T
  pub room : ℕ

-- a list with these items in the place of its first ones: as many as it had, whatever they are
abbrev pub with_items : {T : Type 0} → Listed T → List T → Listed T
with_items list items = record list { items = take (length list.items) (items ++ drop (length items) list.items) }

-- the room of a list that is made of a `Vec`: what it can hold without growing, as far as 32 bits count
abbrev pub room_of : {T : Type 0} → Vec T Global → ℕ
room_of items = min (vec_capacity items) (2 ^ 32 - 1)
