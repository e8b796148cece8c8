use Rattle.std.proofs.Common.{List, ◌++◌, ◌∷◌, []}
use Rattle.engine_model.specs.Waited.{Pace, Sought}
use Rattle.lead_worker.specs.Links.{GoesOnLink, IsPaced}
use Rattle.lead_worker.proofs.link.ProcessLink.seek.Given as goal

abbrev pub invariant-loop-grant : goal.invariant-loop-grant
invariant-loop-grant g l = record {
  goes : GoesOnLink l.initial.self l.self;
  paced : (paces : List Pace) → IsPaced (paces ++ Sought l.fn.edition ∷ []) l.initial.self → IsPaced (paces ++ Sought l.fn.edition ∷ []) l.self;
}
