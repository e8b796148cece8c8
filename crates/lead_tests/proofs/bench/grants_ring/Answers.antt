use Rattle.std.proofs.Common.{refl, ◌∙◌, ap}
use Rattle.disk_ring.specs.Receiver.{Receiver}
use Rattle.disk_ring.specs.Sender.{Sender}
use Rattle.run_world.specs.declared.finished.Grant.{Grant}
use Rattle.lead_tests.proofs.bench.grants_ring.Goals as goal

-- src/bench.rt
pub returns-clause-to : goal.returns-clause-to
returns-clause-to c = (
  ap (λ (s : Sender Grant). s.closed) c.in_ok-to.ensures.ends.sender,
  c.in_ok-to.ensures.room 0 (λ k d near. refl),
  ap (λ (s : Sender Grant). s.depth) c.in_ok-to.ensures.ends.sender,
  ap (λ (s : Sender Grant). s.sent) c.in_ok-to.ensures.ends.sender,
)

pub returns-clause-from : goal.returns-clause-from
returns-clause-from c = ap (λ (r : Receiver Grant). r.room) c.in_ok-to.ensures.ends.receiver ∙ c.in_ok-to.ensures.room 0 (λ k d near. refl)
