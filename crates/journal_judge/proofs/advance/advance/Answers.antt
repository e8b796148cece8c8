-- Each edit of the history is taken in in its turn.
use Rattle.std.proofs.Common.{◌<◌, length, get_or, ap, ◌∙◌, arith}
use Rattle.edit_resolve.specs.Reason.{refusal_of}
use Rattle.journal_judge.proofs.AtLemmas.{at_place, never_refused, opens_at}
use Rattle.journal_judge.proofs.advance.advance.Goals as goal

pub apply-requires-clause-open : goal.apply-requires-clause-open
apply-requires-clause-open g c = let h = c.args.history.now in let lt : c.loop-k.k < length h.edits = omega (arith, c.loop-k-test.true, c.requires.1.1.1) in
    opens_at g.s h c.loop-k.k c.loop-k.e c.requires.0 c.loop-k.invariant c.index-edits-k.result (at_place h.edits c.loop-k.k c.index-edits-k.result lt (c.index-edits-k.is ∙ ap (λ l. get_or l c.loop-k.k c.index-edits-k.result) c.edits.ensures))

pub unreachable-requires : goal.unreachable-requires
unreachable-requires g c = let h = c.args.history.now in let lt : c.loop-k.k < length h.edits = omega (arith, c.loop-k-test.true, c.requires.1.1.1) in
    never_refused g.s h c.loop-k.k c.loop-k.e c.requires.0 c.loop-k.invariant c.index-edits-k.result (refusal_of c.in_default.field-0)
    (at_place h.edits c.loop-k.k c.index-edits-k.result lt (c.index-edits-k.is ∙ ap (λ l. get_or l c.loop-k.k c.index-edits-k.result) c.edits.ensures)) c.in_default.ensures.step.0
