use Rattle.std.proofs.Common.{refl}
use Rattle.disk_ring.proofs.Notes.{starts}
use Rattle.disk_ring.proofs.ends.new_ring_table.Goals as goal

pub new-requires : goal.new-requires
new-requires g c = starts _ g.T.Roomy.room_of _ _ _ refl c.requires.some c.requires.room
