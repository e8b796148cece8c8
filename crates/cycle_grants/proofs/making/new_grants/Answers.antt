use Rattle.std.proofs.Common.{refl}
use Rattle.cycle_grants.proofs.making.new_grants.Goals as goal

pub new-granting-requires-clause-room : goal.new-granting-requires-clause-room
new-granting-requires-clause-room c = c.in_ok-to.ensures.room 0 (λ k d near. refl)
