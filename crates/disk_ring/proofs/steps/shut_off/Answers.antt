use Rattle.std.proofs.Common.{arith}
use Rattle.disk_ring.proofs.Sends.{shuts}
use Rattle.disk_ring.proofs.steps.shut_off.Goals as goal

pub store-requires : goal.store-requires
store-requires g c = let p = c.requires.place in let words = p.words in let count = c.requires.count.0 in (p.table, omega arith, shuts _ g.T.Roomy.room_of _ _ _ _ _ p.mine (omega arith))
