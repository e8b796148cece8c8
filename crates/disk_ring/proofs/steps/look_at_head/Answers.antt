use Rattle.std.proofs.Common.{arith}
use Rattle.disk_ring.proofs.Sends.{sees_head}
use Rattle.disk_ring.proofs.steps.look_at_head.Goals as goal

pub load-requires : goal.load-requires
load-requires g c = let p = c.requires in let words = p.words in (p.table, omega arith, sees_head _ g.T.Roomy.room_of _ _ _ _ p.mine p.rests)
