use Rattle.std.proofs.Common.{refl, ◌∙◌, ap}
use Rattle.disk_ring.specs.Receiver.{Receiver}
use Rattle.disk_ring.specs.Sender.{Sender}
use Rattle.piece_item.specs.declared.ack.Ack.{Ack}
use Rattle.lead_tests.proofs.bench.acks_ring.Goals as goal

-- src/bench.rt
pub returns-clause-to : goal.returns-clause-to
returns-clause-to c = (ap (λ (s : Sender Ack). s.closed) c.in_ok-to.ensures.ends.sender, c.in_ok-to.ensures.room 0 (λ k d near. refl))

pub returns-clause-from : goal.returns-clause-from
returns-clause-from c = (
  ap (λ (r : Receiver Ack). r.room) c.in_ok-to.ensures.ends.receiver ∙ c.in_ok-to.ensures.room 0 (λ k d near. refl),
  ap (λ (r : Receiver Ack). r.received) c.in_ok-to.ensures.ends.receiver,
)
