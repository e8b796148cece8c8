-- What each step at a ring's table tells the end that makes it.
use Rattle.std.specs.Prelude.{◌≡◌, ◌≢◌, ◌⊎◌, ℕ, ◌+◌, ◌*◌, ◌/◌, ◌%◌, ◌^◌, ◌<◌, ◌≤◌, Bool, true, false, ◌==◌, List, [], ◌∷◌, ◌++◌, map, length}
use mathlib.Core.List.{IsPrefix}
use Rattle.atomic_table.specs.Table.{Me, Step}
use Rattle.disk_ring.specs.declared.ring_table.Known.{Known}

-- the close bit of a tail word
abbrev pub close_bit : ℕ → Bool
close_bit word = (word % 2) == 1

module _ {T : Type 0} where
  -- the ring of this depth has no slot for one more item, or had all that it ever takes
  abbrev pub NoRoom : ℕ → List T → ℕ → Type 0
  NoRoom depth sent head = (length sent ≡ head + depth) ⊎ (length sent ≡ 2 ^ 62)

  -- a seat of no end, which only tells
  abbrev pub note : List T → Bool → ℕ → Known T
  note heard over got = record {
    room = 0;
    sends = false;
    sent = [];
    closed = false;
    filling = false;
    heads = [];
    takes = false;
    received = [];
    held = [];
    tails = [];
    ended = false;
    heard = heard;
    over = over;
    got = got;
  }

  abbrev pub hears_list : Known T → Known T → Known T
  hears_list v told = record v { heard = told.heard; over = told.over }

  abbrev pub hears : Known T → Known T → Known T
  hears v told = record v { heard = told.heard; over = told.over; got = told.got }

module _ {S T : Type 0} where
  -- the producer stores the close bit
  abbrev pub Shut : Me S (Known T) → Me S (Known T) → Type 0
  Shut m m' = m' ≡ (record m.0 { closed = true }, m.1)

  -- the consumer loads the tail word, and takes no slot
  pub record GlancedAt (m : Me S (Known T)) (word : ℕ) (m' : Me S (Known T)) : Type 0 where
    pub small : word / 2 ≤ 2 ^ 62
    pub over : m.0.over ≡ true → (close_bit word ≡ true) × (word / 2 ≡ length m.0.heard)
    pub ended : m.0.ended ≡ true → (close_bit word ≡ true) × (word / 2 ≡ length m.0.received)
    pub heard : IsPrefix m.0.heard m'.0.heard
    pub begins : IsPrefix m.0.received m'.0.heard
    pub told : length m'.0.heard ≡ word / 2
    pub empty : word ≡ 2 * length m.0.received
        → m' ≡ (record m.0 { tails = m.0.tails ++ length m.0.received ∷ []; heard = m.0.received }, m.1)
    pub more : word ≢ 2 * length m.0.received → m' ≡ (record m.0 { heard = m'.0.heard; over = close_bit word }, m.1)

  -- the consumer stores the head, and gives the slot back with the husk
  abbrev pub Received : Me S (Known T) → Me S (Known T) → Type 0
  Received m m' = m' ≡ (record m.0 { received = m.0.received ++ m.0.held; held = [] }, [])

  -- the producer, after it was told of the consumer, loads the head
  pub record RecalledIn (m m' : Me S (Known T)) : Type 0 where
    pub heard : IsPrefix m.0.heard m.0.sent
    pub over : m.0.over ≡ true → (m.0.closed ≡ true) × (m.0.heard ≡ m.0.sent)
    pub small : length m.0.sent ≤ 2 ^ 62
    pub same : m' ≡ m

  -- the consumer, after it was told of the producer, loads the tail word
  pub record RecalledOut (st : Step S) (m m' : Me S (Known T)) : Type 0 where
    pub within : length m.0.heard ≤ length m.0.received + st.slots
    pub got : m.0.got ≤ length m.0.received
    pub same : m' ≡ m

module _ {S T : Type 0} (value : S → T) where
  -- the producer stores the tail, and gives the slot back with the item
  abbrev pub Sent : Me S (Known T) → Me S (Known T) → Type 0
  Sent m m' = m' ≡ (record m.0 { sent = m.0.sent ++ map (λ x. value x.1) m.1; filling = false }, [])

module _ {S T : Type 0} (value : S → T) (room_of : T → ℕ) where
  -- the producer loads the head, and takes the slot of its next item where there is one
  pub record SawHead (st : Step S) (m : Me S (Known T)) (head : ℕ) (m' : Me S (Known T)) : Type 0 where
    pub behind : head ≤ length m.0.sent
    pub rises : m.0.got ≤ head
    pub within : length m.0.sent ≤ head + st.slots
    pub full : NoRoom st.slots m.0.sent head → m' ≡ (record m.0 { got = head; heads = m.0.heads ++ head ∷ [] }, m.1)
    pub free : ¬ NoRoom st.slots m.0.sent head → (b : S) × (room_of (value b) ≡ m.0.room)
        × (m' ≡ (record m.0 { got = head; filling = true }, (length m.0.sent % st.slots, b) ∷ m.1))

  -- the consumer loads the tail word, and takes the slot of the next item where there is one
  pub record SawTail (st : Step S) (m : Me S (Known T)) (word : ℕ) (m' : Me S (Known T)) : Type 0 where
    pub behind : length m.0.received ≤ word / 2
    pub small : word / 2 ≤ 2 ^ 62
    pub heard : length m.0.heard ≤ word / 2
    pub over : m.0.over ≡ true → (close_bit word ≡ true) × (word / 2 ≡ length m.0.heard)
    pub ended : m.0.ended ≡ true → (close_bit word ≡ true) × (word / 2 ≡ length m.0.received)
    pub nothing : word / 2 ≡ length m.0.received → IsPrefix m.0.heard m.0.received
        × (m' ≡ (record m.0 { tails = m.0.tails ++ (word / 2) ∷ []; ended = close_bit word; heard = m.0.received; over = close_bit word }, m.1))
    pub item : word / 2 ≢ length m.0.received → (b : S) × (room_of (value b) ≡ m.0.room)
        × (length m.0.received < length m.0.heard → IsPrefix (m.0.received ++ value b ∷ []) m.0.heard)
        × (m' ≡ (record m.0 { held = value b ∷ [] }, (length m.0.received % st.slots, b) ∷ m.1))
