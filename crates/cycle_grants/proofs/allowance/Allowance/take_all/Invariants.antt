use Rattle.std.proofs.Common.{◌≡◌, ◌-◌, ◌^◌, length}
use Rattle.disk_ring.specs.Receiver.{GoesOnOut}
use Rattle.cycle_grants.proofs.allowance.Allowance.take_all.Given as goal

abbrev pub invariant-loop : goal.invariant-loop
invariant-loop l = record {
  ring : GoesOnOut l.initial.self.from l.self.from;
  waits : l.self.waits ≡ l.initial.self.waits;
  tails : l.self.from.tails ≡ l.initial.self.from.tails;
}

abbrev pub decreases-loop : goal.decreases-loop
decreases-loop l = 2 ^ 62 - length l.self.from.received
