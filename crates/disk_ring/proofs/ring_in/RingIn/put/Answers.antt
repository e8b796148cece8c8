use Rattle.std.proofs.Common.{rules}
use Rattle.disk_ring.proofs.GoesOn.{after_put, after_full}
use Rattle.disk_ring.proofs.Hands.{to_fill}
use Rattle.disk_ring.proofs.ring_in.RingIn.put.Goals as goal

pub returns-then-is_full-clause-ring : goal.returns-then-is_full-clause-ring
returns-then-is_full-clause-ring g c = after_full _ _ c.look_at_head-head.result (search rules) (search rules)

pub send-husk-requires-clause-hand : goal.send-husk-requires-clause-hand
send-husk-requires-clause-hand g c = to_fill _ g.T.Roomy.room_of _ _ _ _ _ c.look_at_head-head.ensures.saw c.self.invariant.seat.hand (search rules) (search rules)

pub returns-clause-ring : goal.returns-clause-ring
returns-clause-ring g c = after_put _ _ c.args.full.value (search rules) (search rules)
