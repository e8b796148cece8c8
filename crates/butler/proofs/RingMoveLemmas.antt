-- What one ring allows before a turn, by what the turn did to it.
use Rattle.std.proofs.Common.{◌≡◌, ℕ, ◌+◌, ◌-◌, ◌^◌, ◌≤◌, List, [], ◌∷◌, ◌++◌, length, refl, ap, ◌∙◌, subst, arith, true, false, inl, inr, length-append}
use Rattle.std.specs.Prelude.{Bool, ◌&&◌, ◌⊎◌, nat_lt, Option, Some, None}
use Rattle.std.specs.Option.{option_map_or}
use Rattle.std.proofs.lemmas.Bool.{and_left, and_right, lt-ltb, le-ltb}
use Rattle.std.proofs.lemmas.List.{map-append, nil_from_length}
use mathlib.Core.List.{IsPrefix}
use Rattle.session_model.specs.declared.session.Session.{Session}
use Rattle.session_model.specs.declared.edit.Edit.{Edit}
use Rattle.engine_model.specs.Items.{Kind}
use Rattle.engine_model.specs.Due.{Ack, due}
use Rattle.disk_ring.specs.Sender.{Sender}
use Rattle.disk_ring.specs.Receiver.{Receiver}
use Rattle.disk_ring.proofs.Beginnings.{begins_length}
use Rattle.piece_item.specs.declared.item.Item.{Item}
use Rattle.piece_item.specs.declared.take_block.TakeBlock.{TakeBlock}
use Rattle.piece_item.specs.Views.{kind_of}
use Rattle.read_ahead.specs.Items.{kinds, IsFoundFull}
use Rattle.butler.specs.Sends.{AreDue, SendsOf}
use Rattle.butler.specs.Moves.{waits, has_room}

-- room by the number that is known, as the core machine says it
pub room_as_core : (sent got depth : ℕ) → 1 ≤ depth → nat_lt (sent - got) depth ≡ nat_lt sent (got + depth)
room_as_core sent got depth some = grind (arith, some)

pub none_at : {X : Type 0} (p : X → Bool) (o : Option X) → ((x : X) → o ≡ Some x → p x ≡ false) → option_map_or p o false ≡ false
none_at p None none = refl
none_at p (Some x) none = none x refl

-- all that it was told of was received
pub no_wait : (c b : Receiver TakeBlock) → IsPrefix c.heard b.received → length b.received ≡ length c.received → waits c ≡ false
no_wait c b told same = le-ltb (length c.received) (length c.heard) (omega (arith, begins_length c.heard b.received told, same))

pub one_waits : (c b : Receiver TakeBlock) → IsPrefix b.received c.heard → length b.received ≡ length c.received + 1 → waits c ≡ true
one_waits c b told more = lt-ltb (length c.received) (length c.heard) (omega (arith, begins_length b.received c.heard told, more))

pub no_room : (sent got depth head : ℕ) → got ≤ head → (sent ≡ head + depth) ⊎ (sent ≡ 2 ^ 62) → (nat_lt sent (got + depth) && nat_lt sent (2 ^ 62)) ≡ false
no_room sent got depth head rises (inl full) = and_left (nat_lt sent (got + depth)) (nat_lt sent (2 ^ 62)) (le-ltb sent (got + depth) (omega (arith, rises, full)))
no_room sent got depth head rises (inr all) = and_right (nat_lt sent (got + depth)) (nat_lt sent (2 ^ 62)) (le-ltb sent (2 ^ 62) (omega (arith, all)))

pub found_full : (d f : Sender Item) → f.depth ≡ d.depth → length f.sent ≡ length d.sent → IsFoundFull d f → has_room d ≡ false
found_full d f deep same full = no_room (length d.sent) d.got d.depth full.head full.rises
    (subst (λ (n : ℕ). (n ≡ full.head + d.depth) ⊎ (n ≡ 2 ^ 62)) same (subst (λ (n : ℕ). (length f.sent ≡ full.head + n) ⊎ (length f.sent ≡ 2 ^ 62)) deep full.full))

module _ (s : Session) (edits : List Edit) (cycles t : ℕ) (acks : List Ack) where
  -- one item was sent, and it was due
  pub one_due : (before : List Kind) (items : List Item) → length items ≡ 1 → AreDue s edits cycles t acks before (kinds items) →
      (x : Kind) × (kinds items ≡ x ∷ []) × (due s edits cycles t (length edits) acks before ≡ Some x)
  one_due before [] long run = absurd (omega (arith, long))
  one_due before (x ∷ []) long run = (kind_of x.kind, refl, run.0)
  one_due before (x ∷ y ∷ zs) long run = absurd (omega (arith, long))

  module _ (d f : Sender Item) (one : SendsOf s edits cycles t acks d f) where
    pub sent_more : length f.sent ≡ length d.sent + length one.items
    sent_more = ap length one.sent ∙ length-append d.sent one.items

    pub kinds_more : kinds f.sent ≡ kinds d.sent ++ kinds one.items
    kinds_more = ap kinds one.sent ∙ map-append (λ item. kind_of item.kind) d.sent one.items

    pub kinds_stand : length f.sent ≡ length d.sent → kinds f.sent ≡ kinds d.sent ++ []
    kinds_stand same = kinds_more ∙ ap (λ items. kinds d.sent ++ kinds items) (nil_from_length one.items (omega (arith, sent_more, same)))
