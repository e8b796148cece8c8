-- The rule of a ring: what holds of its words, its boxes and its seats between any two steps.
-- Word 0 is the number received. Word 1 is twice the number sent, and 1 more once the ring is closed.
use Rattle.std.specs.Prelude.{◌≡◌, ℕ, ◌+◌, ◌*◌, ◌%◌, ◌^◌, ◌<◌, ◌≤◌, Bool, true, false, List, [], ◌++◌, length, slice_index_or}
use mathlib.Core.List.{IsPrefix}
use mathlib.Core.Option.{some}
use mathlib.Core.Option as maybe
use lib.ListN.{get_elem?}
use Rattle.atomic_table.specs.Table.{State}
use Rattle.disk_ring.specs.declared.ring_table.Known.{Known}

-- 1 where the ring is closed
abbrev pub bit : Bool → ℕ
bit false = 0
bit true = 1

-- the first seat, from which the two ends are split
abbrev pub opening_view : {T : Type 0} → ℕ → Known T
opening_view room = record {
  room = room;
  sends = true;
  sent = [];
  closed = false;
  filling = false;
  heads = [];
  takes = true;
  received = [];
  held = [];
  tails = [];
  ended = false;
  heard = [];
  over = false;
  got = 0;
}

-- what a ring has let through
pub record Flow (T : Type 0) : Type 0 where
  -- every item that was sent, in order
  pub log : List T
  -- how many of them were received
  pub got : ℕ
  -- whether it was closed
  pub shut : Bool
  -- the numbers of the two ends' seats
  pub producer : ℕ
  pub consumer : ℕ
  -- whether the producer holds the slot of the next item
  pub filling : Bool
  -- the item that the consumer holds, if any
  pub held : List T

module _ {T : Type 0} (room : ℕ) (w : Flow T) (seat : ℕ) where
  -- the producer knows all that was sent
  pub record Produces (told : ℕ) (sent : List T) (closed filling : Bool) : Type 0 where
    pub mine : seat ≡ w.producer
    pub room_is : told ≡ room
    pub sent_is : sent ≡ w.log
    pub closed_is : closed ≡ w.shut
    pub filling_is : filling ≡ w.filling

  -- the consumer knows all that was received
  pub record Consumes (told : ℕ) (received held : List T) (ended : Bool) : Type 0 where
    pub mine : seat ≡ w.consumer
    pub room_is : told ≡ room
    pub counted : length received ≡ w.got
    pub held_is : held ≡ w.held
    pub begins : IsPrefix (received ++ held) w.log
    pub all : ended ≡ true → (w.shut ≡ true) × (received ≡ w.log)

  -- what holds of each seat
  pub record Fits (v : Known T) : Type 0 where
    pub heard : IsPrefix v.heard w.log
    pub over : v.over ≡ true → (w.shut ≡ true) × (v.heard ≡ w.log)
    pub got : v.got ≤ w.got
    pub sends : v.sends ≡ true → Produces v.room v.sent v.closed v.filling
    pub takes : v.takes ≡ true → Consumes v.room v.received v.held v.ended

module _ {S T : Type 0} (value : S → T) (room_of : T → ℕ) where
  -- the slot of item k has a box of the ring's room, and in it the item, if it was sent
  abbrev pub Stocked : ℕ → ℕ → List T → List (maybe.Option S) → ℕ → Type 0
  Stocked room depth log homes k = (b : S) × (get_elem? homes (k % depth) ≡ some (some b))
      × (room_of (value b) ≡ room) × (k < length log → get_elem? log k ≡ some (value b))

  -- the rule of a ring of this room and depth
  pub record Ruled (room depth : ℕ) (s : State S (Known T)) : Type 0 where
    pub flow : Flow T
    -- there is a slot, `depth` of them, and there are two words
    pub some_slot : 0 < depth
    pub deep : length s.homes ≡ depth
    pub wide : length s.words ≡ 2
    -- what the two words say
    pub head : slice_index_or s.words 0 0 ≡ flow.got
    pub tail : slice_index_or s.words 1 0 ≡ 2 * length flow.log + bit flow.shut
    -- what was received and what is held was sent, no more waits than there are boxes, and all of it is counted
    pub behind : flow.got + length flow.held ≤ length flow.log
    pub within : length flow.log ≤ flow.got + depth
    pub small : length flow.log ≤ 2 ^ 62
    -- a slot is in the producer's hand only where one more item has room
    pub fillable : flow.filling ≡ true → (length flow.log < flow.got + depth) × (length flow.log < 2 ^ 62)
    -- each slot of this turn is stocked, but for the two that an end may hold
    pub stocked : (k : ℕ) → flow.got ≤ k → k < flow.got + depth → (k ≡ flow.got → flow.held ≡ [])
        → (k ≡ length flow.log → flow.filling ≡ false) → Stocked room depth flow.log s.homes k
    -- what each seat knows is so
    pub each_seat : (j : ℕ) (v : Known T) → get_elem? s.views j ≡ some v → Fits room flow j v

  -- a ring of boxes of this room, of some depth
  abbrev pub Law : ℕ → State S (Known T) → Type 0
  Law room s = (depth : ℕ) × Ruled room depth s
