use Rattle.std.proofs.Common.{refl}
use Rattle.ground_tests.proofs.rings.new_ring.Goals as goal

pub returns-clause-room : goal.returns-clause-room
returns-clause-room c = c.in_ok-to.ensures.room 0 (λ k d near. refl)
