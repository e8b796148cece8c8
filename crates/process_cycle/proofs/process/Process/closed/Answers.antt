use Rattle.std.proofs.Common.{ap, ◌∙◌}
use Rattle.std.specs.List.{list_any}
use Rattle.process_cycle.proofs.ClosedLemmas.{any_ended}
use Rattle.process_cycle.proofs.process.Process.closed.Goals as goal

pub returns : goal.returns
returns g c = c.any_closed.ensures ∙ ap (list_any (λ d. d.closed)) c.as_slice.ensures.items ∙ any_ended c.self.inside.ends.plays.items c.self.inside.playbacks.items c.self.invariant
    ∙ ap (λ p. list_any (λ r. r.ended) p.ends.plays.items) c.self.view_is
