use Rattle.std.proofs.Common.{◌-◌, ◌^◌, length}
use Rattle.cycle_grants.proofs.TryLemmas.{Tries}
use Rattle.cycle_grants.proofs.allowance.Allowance.await_cycle.Given as goal

abbrev pub invariant-loop-self : goal.invariant-loop-self
invariant-loop-self l = record {
  tries : Tries l.patience l.made l.fn.self l.self;
}

abbrev pub decreases-loop-self : goal.decreases-loop-self
decreases-loop-self l = 2 ^ 62 - length l.self.from.received
