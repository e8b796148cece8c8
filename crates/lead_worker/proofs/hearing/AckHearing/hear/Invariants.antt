use Rattle.std.proofs.Common.{◌≡◌, ◌-◌, ◌^◌, length}
use Rattle.disk_ring.specs.Receiver.{GoesOnOut}
use Rattle.lead_worker.proofs.hearing.AckHearing.hear.Given as goal

abbrev pub invariant-loop-closed : goal.invariant-loop-closed
invariant-loop-closed l = record {
  ring : GoesOnOut l.initial.self l.self;
  tails : l.self.tails ≡ l.initial.self.tails;
}

abbrev pub decreases-loop-closed : goal.decreases-loop-closed
decreases-loop-closed l = 2 ^ 62 - length l.self.received
