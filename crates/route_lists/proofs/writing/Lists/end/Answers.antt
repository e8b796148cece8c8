use Rattle.std.proofs.Common.{◌≡◌, [], ◌∷◌, ◌++◌, false, ap, ◌∙◌, sym}
use Rattle.route_lists.specs.declared.step.Step.TheVariants.{End}
use Rattle.route_lists.proofs.RuleLemmas.{turns}
use Rattle.route_lists.proofs.WriteLemmas.{taken_alone, grows_by}
use Rattle.route_lists.proofs.writing.Lists.end.Goals as goal

pub publish_as-writer-requires : goal.publish_as-writer-requires
publish_as-writer-requires g c = λ next is.
    let shown = c.append.new.self.desk.shown.value in
    let alone = c.in-Ok.ensures.pending ∙ ap (λ l. l ++ End ∷ []) c.self.invariant.settled in
    let unended : shown.ended ≡ false = ap (λ d. d.shown.value.ended) c.in-Ok.ensures.desk ∙ sym c.self.invariant.shown.1 ∙ ap (λ z. z.edition.ended) c.self.view_is ∙ c.requires in
    turns _ _ shown next (grows_by (shown.edits.items, shown.ended) (next.edits.items, next.ended) End unended (taken_alone (shown.edits.items, shown.ended) (next.edits.items, next.ended) _ End alone is))
