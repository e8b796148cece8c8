use Rattle.std.proofs.Common.{arith, ap, ◌∙◌, sym, ◌∷◌, ◌%◌, length}
use Rattle.atomic_table.specs.Table.{rest}
use Rattle.disk_ring.proofs.Takes.{receives}
use Rattle.disk_ring.proofs.steps.receive.Goals as goal

pub exchange-item-requires : goal.exchange-item-requires
exchange-item-requires g c = let hand = c.requires.hand in (c.requires.place.table, (hand.0, hand.1 ∙ ap (λ r. (c.args.slot, hand.0) ∷ r) (sym (ap rest hand.1))))

pub store-requires : goal.store-requires
store-requires g c = let p = c.requires.place in let words = p.words in let now = c.exchange-item.ensures.3 in let know = ap (λ m. m.0) now in let count = c.requires.count.0 in let long = ap (λ v. length v.received) know in (
  c.exchange-item.ensures.0 ∙ p.table,
  omega arith,
  receives _ g.T.Roomy.room_of _ _ _ _ c.args.slot _ _ c.args.husk (ap (λ v. v.takes) know ∙ p.mine) (ap (λ v. v.held) know ∙ c.requires.hand.2)
      (c.requires.room ∙ sym (ap (λ v. v.room) know)) (p.place ∙ ap (λ v. length v.received % c.args.ring_table.now.shared.table_id.slots) (sym know))
      (ap (λ m. m.1) now ∙ ap (λ r. (c.args.slot, c.args.husk) ∷ r) (ap rest c.requires.hand.1)) (omega arith),
)
