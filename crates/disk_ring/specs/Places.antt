-- The seats of the two ends at a ring's table.
use Rattle.std.specs.Prelude.{◌≡◌, ℕ, ◌+◌, ◌*◌, ◌%◌, ◌^◌, ◌<◌, ◌≤◌, true, false, [], length}
use Rattle.atomic_table.specs.Seated.{TableId}
use Rattle.atomic_table.specs.declared.shared.Seat.{Seat}
use Rattle.disk_ring.specs.declared.ring_table.Known.{Known}
use Rattle.disk_ring.specs.Rule.{bit, opening_view}

module _ {S T : Type 0} where
  -- the same seat, and the table that it was at
  abbrev pub IsSameSeat : Seat S (Known T) → Seat S (Known T) → Type 0
  IsSameSeat p q = (q.table_id ≡ p.table_id) × (q.id ≡ p.id)

  -- the first seat at the table of a new ring
  pub record IsFirst (z : TableId) (room depth : ℕ) (p : Seat S (Known T)) : Type 0 where
    pub table : p.table_id ≡ z
    pub words : z.words ≡ 2
    pub slots : z.slots ≡ depth
    pub me : p.me ≡ (opening_view room, [])

  -- the producer's seat at this table, between two calls
  pub record IsProducer (z : TableId) (p : Seat S (Known T)) : Type 0 where
    pub table : p.table_id ≡ z
    pub words : z.words ≡ 2
    pub mine : p.me.0.sends ≡ true
    pub rests : p.me.0.filling ≡ false
    pub hand : p.me.1 ≡ []

  -- the consumer's seat at this table, between two calls
  pub record IsConsumer (z : TableId) (p : Seat S (Known T)) : Type 0 where
    pub table : p.table_id ≡ z
    pub words : z.words ≡ 2
    pub mine : p.me.0.takes ≡ true
    pub rests : p.me.0.held ≡ []
    pub hand : p.me.1 ≡ []

  -- the producer's seat with the slot of its next item in hand
  pub record IsFilling (z : TableId) (slot : ℕ) (p : Seat S (Known T)) : Type 0 where
    pub table : p.table_id ≡ z
    pub words : z.words ≡ 2
    pub mine : p.me.0.sends ≡ true
    pub fills : p.me.0.filling ≡ true
    pub still_open : p.me.0.closed ≡ false
    pub place : slot ≡ length p.me.0.sent % z.slots

  -- the consumer's seat with the slot of its next item in hand
  pub record IsEmptying (z : TableId) (slot : ℕ) (p : Seat S (Known T)) : Type 0 where
    pub table : p.table_id ≡ z
    pub words : z.words ≡ 2
    pub mine : p.me.0.takes ≡ true
    pub place : slot ≡ length p.me.0.received % z.slots

  -- what is always so of the producer's end
  pub record SenderOk (z : TableId) (p : Seat S (Known T)) (count depth got word : ℕ) : Type 0 where
    pub seat : IsProducer z p
    pub slots : z.slots ≡ depth
    pub some_slot : 0 < depth
    pub counted : count ≡ length p.me.0.sent
    pub small : count ≤ 2 ^ 62
    pub knows : got ≡ p.me.0.got
    pub stored : word ≡ 2 * count + bit p.me.0.closed

  -- what is always so of the consumer's end
  pub record ReceiverOk (z : TableId) (p : Seat S (Known T)) (count depth word : ℕ) : Type 0 where
    pub seat : IsConsumer z p
    pub slots : z.slots ≡ depth
    pub some_slot : 0 < depth
    pub counted : count ≡ length p.me.0.received
    pub small : count ≤ 2 ^ 62
    pub hears : word ≡ 2 * length p.me.0.heard + bit p.me.0.over
    -- where it was answered Closed it knows that this was all
    pub ended : p.me.0.ended ≡ true → (p.me.0.over ≡ true) × (p.me.0.heard ≡ p.me.0.received)
