use Rattle.std.proofs.Common.{refl, ◌∙◌, ap}
use Rattle.disk_ring.specs.Receiver.{Receiver}
use Rattle.disk_ring.specs.Sender.{Sender}
use Rattle.run_world.specs.declared.finished.Grant.{Grant}
use Rattle.grant_tests.proofs.rows.new_ring.Goals as goal

pub returns-clause-open : goal.returns-clause-open
returns-clause-open c = (ap (λ (s : Sender Grant). s.closed) c.in_ok-to.ensures.ends.sender, c.in_ok-to.ensures.room 0 (λ k d near. refl))

pub returns-clause-fresh : goal.returns-clause-fresh
returns-clause-fresh c = (
  ap (λ (r : Receiver Grant). r.received) c.in_ok-to.ensures.ends.receiver,
  ap (λ (r : Receiver Grant). r.room) c.in_ok-to.ensures.ends.receiver ∙ c.in_ok-to.ensures.room 0 (λ k d near. refl),
)
