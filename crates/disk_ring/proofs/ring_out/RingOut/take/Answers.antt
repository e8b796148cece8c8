use Rattle.std.proofs.Common.{rules, ◌∙◌}
use Rattle.disk_ring.proofs.GoesOn.{after_look, after_take}
use Rattle.disk_ring.proofs.Hands.{to_empty}
use Rattle.disk_ring.proofs.ring_out.RingOut.take.Goals as goal

pub returns-then-tail-self-clause-ring : goal.returns-then-tail-self-clause-ring
returns-then-tail-self-clause-ring g c = let look = c.look_at_tail-word.ensures in
    after_look _ g.T.Roomy.room_of _ c.self.inside.seat c.look_at_tail-word.new.place _ _ c.look_at_tail-word.result c.self.view_is look.same.0 look.saw (c.if-tail-self.true ∙ c.self.invariant.counted)

pub receive-item-requires-clause-hand : goal.receive-item-requires-clause-hand
receive-item-requires-clause-hand g c = to_empty _ g.T.Roomy.room_of _ _ _ _ _ c.look_at_tail-word.ensures.saw c.self.invariant.seat.hand (search rules) (search rules)

pub returns-clause-ring : goal.returns-clause-ring
returns-clause-ring g c = after_take _ _ c.receive-item.result.value (search rules) (search rules)
