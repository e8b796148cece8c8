use Rattle.std.proofs.Common.{◌≡◌, ◌++◌, length, replicate}
use Rattle.disk_ring.specs.Receiver.{GoesOnOut}
use Rattle.cycle_grants.proofs.allowance.Allowance.try_again.Given as goal

abbrev pub invariant-loop-try : goal.invariant-loop-try
invariant-loop-try l = record {
  ring : GoesOnOut l.initial.self.from l.self.from;
  same : l.self ≡ record l.initial.self { from = l.self.from };
  received : l.self.from.received ≡ l.initial.self.from.received;
  tails : l.self.from.tails ≡ l.initial.self.from.tails ++ replicate l._try (length l.initial.self.from.received);
}
