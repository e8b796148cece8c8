use Rattle.disk_ring.proofs.GoesOn.{after_glance}
use Rattle.disk_ring.proofs.ring_out.RingOut.is_empty.Goals as goal

pub returns-clause-ring : goal.returns-clause-ring
returns-clause-ring g c = let look = c.glance_at_tail-word.ensures in after_glance _ c.self.inside.seat c.glance_at_tail-word.new.place _ c.glance_at_tail-word.result c.self.view_is look.same.0 look.glanced
