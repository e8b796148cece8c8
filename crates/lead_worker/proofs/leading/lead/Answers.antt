use Rattle.std.proofs.Common.{ap, subst, sym, length, ◌∙◌}
use Rattle.disk_ring.specs.Receiver.{GoesOnOut}
use Rattle.disk_ring.specs.Sender.{GoesOnIn}
use Rattle.edition_log.specs.EditionState.{EditionState}
use Rattle.lead_worker.specs.Leads.{LeadLeaves}
use Rattle.lead_worker.specs.Links.{GoesOnLink}
use Rattle.lead_worker.proofs.LeadLemmas.{lead_leaves}
use Rattle.lead_worker.proofs.LinkLemmas.{goes_trans}
use Rattle.lead_worker.proofs.leading.lead.Goals as goal

-- src/leading.rt
pub returns-clause-leaves : goal.returns-clause-leaves
returns-clause-leaves g c = let source = g.C.Source.outside in let sink = g.O.Sink.outside in let s = c.args.session.now.value in let from = c.args.w.control in let lists = c.all_lines-lists.result.0 in
    let memory = c.all_lines-lists.result.1 in let control = c.all_lines-lists.new.control in let link = c.all_lines-lists.new.link in let now = c.allow_all.new.self in let ends = c.ends-grants in
    subst (λ to. LeadLeaves source sink s c.args.cycles from memory lists control to ends.result.1) (sym ends.ensures.grants)
    (subst (λ acks. LeadLeaves source sink s c.args.cycles from memory lists control now.granting.to acks) (sym ends.ensures.acks)
    (lead_leaves source sink s c.args.cycles from lists link now c.args.w.link c.requires.begins.depth c.all_lines-lists.ensures.goes c.allow_all.ensures.goes ends.ensures.full memory control
    c.number.result (c.number.ensures.number ∙ ap (λ (e : EditionState). length e.edits) c.edition.ensures) c.all_lines-lists.ensures.led c.allow_all.ensures.paced))

pub returns-clause-grants : goal.returns-clause-grants
returns-clause-grants g c = let on : GoesOnLink c.args.w.link c.allow_all.new.self = goes_trans c.args.w.link c.all_lines-lists.new.link c.allow_all.new.self c.all_lines-lists.ensures.goes c.allow_all.ensures.goes in
    subst (λ to. GoesOnIn c.args.w.link.granting.to to) (sym c.ends-grants.ensures.grants) on.grants

pub returns-clause-acks : goal.returns-clause-acks
returns-clause-acks g c = let on : GoesOnLink c.args.w.link c.allow_all.new.self = goes_trans c.args.w.link c.all_lines-lists.new.link c.allow_all.new.self c.all_lines-lists.ensures.goes c.allow_all.ensures.goes in
    subst (λ acks. GoesOnOut c.args.w.link.hearing acks) (sym c.ends-grants.ensures.acks) on.acks
