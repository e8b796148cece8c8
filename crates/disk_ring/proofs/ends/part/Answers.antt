use Rattle.std.proofs.Common.{arith}
use Rattle.disk_ring.proofs.Notes.{parts}
use Rattle.disk_ring.proofs.ends.part.Goals as goal

pub split_seat-requires : goal.split_seat-requires
split_seat-requires g c = let words = c.requires.words in (c.requires.table, omega arith, parts _ g.T.Roomy.room_of _ _ _ c.requires.both.0 c.requires.both.1)
