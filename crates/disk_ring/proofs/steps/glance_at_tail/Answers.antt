use Rattle.std.proofs.Common.{arith}
use Rattle.disk_ring.proofs.Takes.{glances}
use Rattle.disk_ring.proofs.steps.glance_at_tail.Goals as goal

pub load-requires : goal.load-requires
load-requires g c = let p = c.requires in let words = p.words in (p.table, omega arith, glances _ g.T.Roomy.room_of _ _ _ _ p.mine p.rests)
