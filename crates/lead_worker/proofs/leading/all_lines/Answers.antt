use Rattle.std.proofs.Common.{ap, subst, length, ◌∙◌}
use Rattle.edition_log.specs.EditionState.{EditionState}
use Rattle.lead_worker.specs.Leads.{Carries}
use Rattle.lead_worker.proofs.LeadLemmas.{led_at_first, led_on, led_until}
use Rattle.lead_worker.proofs.LinkLemmas.{goes_refl, goes_trans}
use Rattle.lead_worker.proofs.leading.all_lines.Goals as goal

-- src/leading.rt
pub loop-line-init : goal.loop-line-init
loop-line-init g c = record {
  led = led_at_first g.C.Source.outside g.O.Sink.outside c.args.session.now.value c.args.lists c.args.control.now c.args.link.now c.requires.begins;
  goes = goes_refl c.args.link.now;
}

pub returns-then-wanting-clause-led : goal.returns-then-wanting-clause-led
returns-then-wanting-clause-led g c = let source = g.C.Source.outside in let sink = g.O.Sink.outside in let s = c.args.session.now.value in let old = c.loop-line.control in let mid = c.carry-next.new.control in
    let lists = c.loop-line.lists in let now = c.carry-next.result.0 in
    led_until source sink s c.args.control.now lists now old mid c.loop-line.link c.loop-line.invariant.led c.carry-next.ensures.edition c.carry-next.ensures.open
    (subst (λ wanting. Carries source sink s lists.edition.edits old wanting now.edition.edits mid) c.if-wanting.true c.carry-next.ensures.carries)

pub loop-line-preserved : goal.loop-line-preserved
loop-line-preserved g c = let source = g.C.Source.outside in let sink = g.O.Sink.outside in let s = c.args.session.now.value in let old = c.loop-line.control in let mid = c.carry-next.new.control in
    let lists = c.loop-line.lists in let now = c.carry-next.result.0 in record {
      led = led_on source sink s c.args.control.now lists now old mid c.loop-line.link c.loop-line.invariant.led c.carry-next.ensures.edition c.carry-next.ensures.open
          c.settle.new.control c.settle.new.link c.number.result (c.number.ensures.number ∙ ap (λ (e : EditionState). length e.edits) c.edition.ensures)
          (subst (λ wanting. Carries source sink s lists.edition.edits old wanting now.edition.edits mid) c.if-wanting.false c.carry-next.ensures.carries) c.settle.ensures.settles;
      goes = goes_trans c.args.link.now c.loop-line.link c.settle.new.link c.loop-line.invariant.goes c.settle.ensures.goes;
    }
