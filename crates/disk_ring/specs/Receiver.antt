-- What a clause sees of the end of a ring that takes, and what its calls do.
use Rattle.std.specs.Prelude.{◌≡◌, ◌⊎◌, ℕ, ◌^◌, ◌<◌, ◌≤◌, Bool, true, false, List, ◌∷◌, [], ◌++◌, length}
use mathlib.Core.List.{IsPrefix}
use Rattle.atomic_table.specs.Seated.{TableId}
use Rattle.atomic_table.specs.declared.shared.Seat.{Seat}
use Rattle.disk_ring.specs.declared.ring_table.Known.{Known}

-- the end that takes
pub record Receiver (T : Type 0) : Type 0 where
  -- which ring it is: the two ends of a ring have the same
  pub ring : TableId
  -- how many boxes the ring has
  pub depth : ℕ
  -- the room of each box
  pub room : ℕ
  -- every item that was taken, in order
  pub received : List T
  -- the tail of each load by which `take` answered Empty or Closed, or `is_empty` yes
  pub tails : List ℕ
  -- whether `take` answered Closed
  pub ended : Bool
  -- items that were sent, as far as it was told
  pub heard : List T
  -- whether it was told that these are all that is ever sent
  pub over : Bool

-- the end whose seat knows this
abbrev pub receiver_of : {S T : Type 0} → Seat S (Known T) → ℕ → Receiver T
receiver_of p depth = record {
  ring = p.table_id;
  depth = depth;
  room = p.me.0.room;
  received = p.me.0.received;
  tails = p.me.0.tails;
  ended = p.me.0.ended;
  heard = p.me.0.heard;
  over = p.me.0.over;
}

module _ {T : Type 0} where
  -- what `take`, `is_empty` and `meet` leave as it was, and what only grows
  pub record GoesOnOut (a b : Receiver T) : Type 0 where
    -- the ring, its depth and its room stay
    pub ring : b.ring ≡ a.ring
    pub depth : b.depth ≡ a.depth
    pub room : b.room ≡ a.room
    -- what was received stays received
    pub received : IsPrefix a.received b.received
    -- each tail that was answered stays told
    pub tails : IsPrefix a.tails b.tails
    -- after Closed nothing is received
    pub ended : a.ended ≡ true → (b.ended ≡ true) × (b.received ≡ a.received)
    -- what it was told stays so
    pub heard : IsPrefix a.heard b.heard
    -- and where it was told that this is all, nothing more is told
    pub over : a.over ≡ true → (b.over ≡ true) × (b.heard ≡ a.heard)

  -- the next item was taken
  pub record Takes (room_of : T → ℕ) (a : Receiver T) (item : T) (b : Receiver T) : Type 0 where
    -- the box has the ring's room
    pub room : room_of item ≡ a.room
    -- the item is the last one received, and nothing else changed
    pub received : b ≡ record a { received = a.received ++ item ∷ [] }
    -- where it was told of more items than it had received, this is the next of them
    pub next : length a.received < length a.heard → IsPrefix (a.received ++ item ∷ []) a.heard
    -- where it was told that these are all, there was one more
    pub over : a.over ≡ true → length a.received < length a.heard
    -- it hadn't been answered Closed
    pub not_ended : a.ended ≡ false
    -- a ring takes no more items than this
    pub small : length a.received < 2 ^ 62

  -- there was no item, and the ring wasn't closed, by this tail
  pub record FoundEmpty (a : Receiver T) (tail : ℕ) (b : Receiver T) : Type 0 where
    -- all that was sent by then was received
    pub tail_is : tail ≡ length a.received
    -- no less was sent than it was told of
    pub told : length a.heard ≤ tail
    -- and all that it was told of was received
    pub heard : IsPrefix a.heard a.received
    -- it wasn't told that the ring was closed
    pub not_over : a.over ≡ false
    -- it hadn't been answered Closed
    pub not_ended : a.ended ≡ false
    -- the tail is noted, it knows that what it received was sent, and nothing else changed
    pub tails : b ≡ record a { tails = a.tails ++ tail ∷ []; heard = a.received }

  -- there was no item, and none ever comes, by this tail
  pub record FoundClosed (a : Receiver T) (tail : ℕ) (b : Receiver T) : Type 0 where
    -- all that was sent by then was received
    pub tail_is : tail ≡ length a.received
    -- no less was sent than it was told of
    pub told : length a.heard ≤ tail
    -- and all that it was told of was received
    pub heard : IsPrefix a.heard a.received
    -- the tail is noted, it knows that what it received is all, and nothing else changed
    pub tails : b ≡ record a { tails = a.tails ++ tail ∷ []; heard = a.received; over = true; ended = true }

  -- more items were sent than were received, or none is sent any more
  pub record FoundMore (a b : Receiver T) : Type 0 where
    -- it is told of items, and nothing else changed
    pub tells : b ≡ record a { heard = b.heard; over = b.over }
    -- what was received are the first of them
    pub begins : IsPrefix a.received b.heard
    -- there are more of them, or these are all
    pub more : (length a.received < length b.heard) ⊎ (b.over ≡ true)
