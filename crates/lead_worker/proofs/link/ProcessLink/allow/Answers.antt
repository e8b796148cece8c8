use Rattle.std.proofs.Common.{sym, subst, ◌∙◌, Err, ◌++◌, ◌∷◌, []}
use Rattle.cycle_grants.specs.Grants.{grant_of}
use Rattle.cycle_grants.specs.Granting.{Allows}
use Rattle.lead_worker.specs.Links.{KeepsGrants}
use Rattle.lead_worker.proofs.LinkLemmas.{left_keeps}
use Rattle.lead_worker.proofs.link.ProcessLink.allow.Goals as goal

-- src/link.rt
pub returns-then-hear-clause-keeps : goal.returns-then-hear-clause-keeps
returns-then-hear-clause-keeps g c asked was = let a = c.loop-try.self in let full = subst (λ why. Allows c.args.grant a.granting (Err why) c.allow.new.self) c.in-Err-Full.field-0-is c.in-Err-Full.ensures in
    subst (λ x. KeepsGrants (asked ++ grant_of c.args.grant ∷ []) (record { granting = x; hearing = c.hear.new.self; cycles = a.cycles })) (sym c.leave_out.ensures)
    (left_keeps a c.args.grant c.allow.new.self c.in-Err-Full.field-0-0 full c.hear.new.self c.hear.ensures.hears (sym c.hear.ensures.closed ∙ c.if-hear.true) asked (c.loop-try.invariant.keeps asked was))
