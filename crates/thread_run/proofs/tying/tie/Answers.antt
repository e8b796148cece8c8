use Rattle.std.proofs.Common.{sym, ap, subst, ◌∙◌}
use Rattle.std.proofs.lemmas.Bool.{true≢false}
use mathlib.Core.List.{IsPrefix}
use Rattle.edition_log.specs.EditionState.{EditionState, IsEditionOf}
use Rattle.thread_run.proofs.TieLemmas.{still_edits}
use Rattle.thread_run.proofs.tying.tie.Goals as goal
use Rattle.thread_run.proofs.tying.tie.Goals.{then-sees_first, else-sees_first}

-- src/tying.rt
pub returns-clause-edits : goal.returns-clause-edits
returns-clause-edits g c = ap (λ (e : EditionState). e.edits) c.close.ensures ∙ still_edits c.end-lists.result.1 c.args.lists.edition c.end-lists.result.0.edition c.end-lists.ensures.answer

pub returns-clause-stays : goal.returns-clause-stays
returns-clause-stays g c s of = subst (IsEditionOf s) (sym c.close.ensures) (c.end-lists.ensures.stays s of)

pub returns-clause-first : goal.returns-clause-first
returns-clause-first g c tied = subst (λ (e : EditionState). IsPrefix c.args.first.edition.edits e.edits) (sym c.close.ensures) (elim c.if-sees_first.branch [
  | then-sees_first w ↦ c.finds_all-sees_first.ensures w.if-sees_first.true
  | else-sees_first w ↦ absurd (true≢false (sym tied ∙ w.result-is ∙ w.if-sees_first.false))
])

pub returns-clause-second : goal.returns-clause-second
returns-clause-second g c tied = subst (λ (e : EditionState). IsPrefix c.args.second.edition.edits e.edits) (sym c.close.ensures) (elim c.if-sees_first.branch [
  | then-sees_first w ↦ c.finds_all-sees_second.ensures (sym w.result-is ∙ tied)
  | else-sees_first w ↦ absurd (true≢false (sym tied ∙ w.result-is ∙ w.if-sees_first.false))
])
