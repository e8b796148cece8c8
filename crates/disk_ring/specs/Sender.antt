-- What a clause sees of the end of a ring that puts, and what its calls do.
use Rattle.std.specs.Prelude.{◌≡◌, ◌⊎◌, ℕ, ◌+◌, ◌^◌, ◌≤◌, Bool, List, ◌∷◌, [], ◌++◌, length}
use mathlib.Core.List.{IsPrefix}
use Rattle.atomic_table.specs.Seated.{TableId}
use Rattle.atomic_table.specs.declared.shared.Seat.{Seat}
use Rattle.disk_ring.specs.declared.ring_table.Known.{Known}

-- the end that puts
pub record Sender (T : Type 0) : Type 0 where
  -- which ring it is: the two ends of a ring have the same
  pub ring : TableId
  -- how many boxes the ring has
  pub depth : ℕ
  -- the room of each box
  pub room : ℕ
  -- every item that was put, in order
  pub sent : List T
  -- whether it was closed
  pub closed : Bool
  -- the head of each load by which `put` answered Full
  pub heads : List ℕ
  -- how many items were received, as far as it knows
  pub got : ℕ

-- the end whose seat knows this
abbrev pub sender_of : {S T : Type 0} → Seat S (Known T) → ℕ → Sender T
sender_of p depth = record {
  ring = p.table_id;
  depth = depth;
  room = p.me.0.room;
  sent = p.me.0.sent;
  closed = p.me.0.closed;
  heads = p.me.0.heads;
  got = p.me.0.got;
}

module _ {T : Type 0} where
  -- by this head all boxes are full, or the ring had all the items that it ever takes
  abbrev pub FoundFull : Sender T → ℕ → Type 0
  FoundFull a head = (length a.sent ≡ head + a.depth) ⊎ (length a.sent ≡ 2 ^ 62)

  -- what `put` and `meet` leave as it was, and what only grows
  pub record GoesOnIn (a b : Sender T) : Type 0 where
    -- the ring, its depth and its room stay
    pub ring : b.ring ≡ a.ring
    pub depth : b.depth ≡ a.depth
    pub room : b.room ≡ a.room
    -- it is closed where it was
    pub closed : b.closed ≡ a.closed
    -- what was sent stays sent
    pub sent : IsPrefix a.sent b.sent
    -- each head that was answered stays told
    pub heads : IsPrefix a.heads b.heads
    -- the number received that it knows of never falls
    pub got : a.got ≤ b.got

  -- what is so of the head that a `put` loads
  pub record IsHead (a : Sender T) (head : ℕ) : Type 0 where
    -- no fewer were received than it knew of
    pub rises : a.got ≤ head
    -- no more were received than were sent
    pub behind : head ≤ length a.sent
    -- no more wait than there are boxes
    pub within : length a.sent ≤ head + a.depth

  -- the item was put, and `b.got` is the head that was loaded
  pub record Puts (room_of : T → ℕ) (a : Sender T) (item husk : T) (b : Sender T) : Type 0 where
    -- the husk has the ring's room
    pub room : room_of husk ≡ a.room
    -- the item is the last one sent, and nothing else changed
    pub sent : b ≡ record a { sent = a.sent ++ item ∷ []; got = b.got }
    -- the head was loaded in this call
    pub head : IsHead a b.got
    -- by this head the ring wasn't full
    pub free : ¬ FoundFull a b.got

  -- the item wasn't put, by this head
  pub record Refuses (a : Sender T) (head : ℕ) (b : Sender T) : Type 0 where
    -- by this head the ring was full
    pub full : FoundFull a head
    -- the head was loaded in this call
    pub head_is : IsHead a head
    -- it is noted, and nothing else changed
    pub heads : b ≡ record a { heads = a.heads ++ head ∷ []; got = head }
