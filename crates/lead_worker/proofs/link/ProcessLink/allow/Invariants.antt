use Rattle.std.proofs.Common.{List}
use Rattle.engine_model.specs.Waited.{Grant}
use Rattle.lead_worker.specs.Links.{GoesOnLink, KeepsGrants}
use Rattle.lead_worker.proofs.link.ProcessLink.allow.Given as goal

abbrev pub invariant-loop-try : goal.invariant-loop-try
invariant-loop-try g l = record {
  goes : GoesOnLink l.initial.self l.self;
  keeps : (asked : List Grant) → KeepsGrants asked l.initial.self → KeepsGrants asked l.self;
}
