use Rattle.std.proofs.Common.{ap, subst, sym, ◌∙◌}
use Rattle.control_desk.specs.State.{ControlState}
use Rattle.edition_log.specs.EditionState.{EditionState, IsEditionOf}
use Rattle.lead_tests.proofs.leading.worker.Goals as goal

-- src/leading.rt
pub returns-clause-begins : goal.returns-clause-begins
returns-clause-begins g c = let o = c.in_ok-session.ensures in let same = c.in-Ok-lists.ensures.made.0 in let link = c.in-Ok.ensures.link in record {
  edition_of = subst (IsEditionOf c.in_ok-session.field-0.session) (sym same) o.edition;
  no_edit = ap (λ (e : EditionState). e.edits) same ∙ o.first.0;
  not_ended = ap (λ (e : EditionState). e.ended) same ∙ o.first.1;
  ready = ap (λ (z : ControlState _ _). z.standing) c.reading.ensures;
  depth = link.0;
  no_grant = link.1;
  none_left_out = link.2;
}
