-- What is so of the two ends of one ring.
use Rattle.std.specs.Prelude.{◌≡◌, ℕ, ◌+◌, ◌^◌, ◌≤◌, Bool, true, false, List, [], length, All, Box}
use Rattle.std.specs.Global.{Global}
use mathlib.Core.List.{IsPrefix}
use Rattle.disk_ring.specs.Sender.{Sender}
use Rattle.disk_ring.specs.Receiver.{Receiver}

-- the boxes are all of this room
abbrev pub AllOfRoom : {T : Type 0} → (T → ℕ) → ℕ → List (Box T Global) → Type 0
AllOfRoom room_of room husks = All (λ b. room_of b.value ≡ room) husks

-- a ring of this depth as it passed items on
pub record Passed {T : Type 0} (depth : ℕ) (sent : List T) (closed : Bool) (received : List T) (ended : Bool) : Type 0 where
  -- what was received are the first of the items sent
  pub begins : IsPrefix received sent
  -- where the consumer was answered Closed, the ring was closed, and all was received
  pub all : ended ≡ true → (closed ≡ true) × (received ≡ sent)
  -- no more items wait than there are boxes
  pub within : length sent ≤ length received + depth
  -- a ring takes no more than this
  pub small : length sent ≤ 2 ^ 62

-- a ring whose two ends were joined again
pub record Joined (T : Type 0) : Type 0 where
  -- how many boxes it has
  pub depth : ℕ
  -- the room of each box
  pub room : ℕ
  -- every item that was put, in order
  pub sent : List T
  -- whether it was closed
  pub closed : Bool
  -- the head of each load by which `put` answered Full
  pub heads : List ℕ
  -- every item that was taken, in order
  pub received : List T
  -- the tail of each load by which `take` answered Empty or Closed, or `is_empty` yes
  pub tails : List ℕ
  -- whether `take` answered Closed
  pub ended : Bool

module _ {T : Type 0} where
  abbrev pub joined_of : Sender T → Receiver T → Joined T
  joined_of a b = record { depth = a.depth; room = a.room; sent = a.sent; closed = a.closed; heads = a.heads; received = b.received; tails = b.tails; ended = b.ended }

  abbrev pub Whole : Joined T → Type 0
  Whole r = Passed r.depth r.sent r.closed r.received r.ended

  -- the two ends of a ring through which nothing went yet
  pub record IsNewRing (depth : ℕ) (a : Sender T) (b : Receiver T) : Type 0 where
    pub sender : a ≡ record { ring = a.ring; depth = depth; room = a.room; sent = []; closed = false; heads = []; got = 0 }
    pub receiver : b ≡ record { ring = a.ring; depth = depth; room = a.room; received = []; tails = []; ended = false; heard = []; over = false }

  -- what is so of two ends of one ring when they meet
  pub record Met (a : Sender T) (b : Receiver T) : Type 0 where
    -- they are of one depth
    pub depth : b.depth ≡ a.depth
    -- what was received is of what was sent
    pub passed : Passed a.depth a.sent a.closed b.received b.ended
    -- what the consumer was told before was so
    pub heard : IsPrefix b.heard a.sent
    pub over : b.over ≡ true → (a.closed ≡ true) × (b.heard ≡ a.sent)
    -- no fewer were received than the producer knew of
    pub got : a.got ≤ length b.received

  -- By their words nothing moved since these two ends met: the one that takes knows the tail word that the other stored last, and the
  -- one that puts as many items as were taken.
  pub record Agree (a : Sender T) (b : Receiver T) : Type 0 where
    pub heard : length b.heard ≡ length a.sent
    pub over : b.over ≡ a.closed
    pub got : a.got ≡ length b.received
    -- and where that one was answered Closed, it received all that it knows of
    pub ended : b.ended ≡ true → (b.over ≡ true) × (b.heard ≡ b.received)

  -- where the words agree, what is so of ends that meet is so of these
  abbrev pub StillMet : Sender T → Receiver T → Type 0
  StillMet a b = Agree a b → Met a b
