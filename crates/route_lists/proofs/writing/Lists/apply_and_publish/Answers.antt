use Rattle.std.proofs.Common.{◌≡◌, false, ap, ◌∙◌, sym}
use Rattle.route_lists.specs.Shared.{taken_in}
use Rattle.route_lists.proofs.RuleLemmas.{turns}
use Rattle.route_lists.proofs.WriteLemmas.{IsSame, when_ok, is_alone, taken_alone, grows_by, add_is, shown_again}
use Rattle.route_lists.proofs.writing.Lists.apply_and_publish.Goals as goal

pub publish_as-writer-requires : goal.publish_as-writer-requires
publish_as-writer-requires g c = λ next is.
    let shown = c.append.new.self.desk.shown.value in let step = c.adding.result in
    let alone = is_alone _ _ step c.in-Ok.ensures.pending c.self.invariant.settled in
    let unended : shown.ended ≡ false = ap (λ d. d.shown.value.ended) c.in-Ok.ensures.desk ∙ sym c.self.invariant.shown.1 ∙ ap (λ z. z.edition.ended) c.self.view_is ∙ c.requires.open.ended in
    turns _ _ shown next (grows_by (shown.edits.items, shown.ended) (next.edits.items, next.ended) step unended (taken_alone (shown.edits.items, shown.ended) (next.edits.items, next.ended) _ step alone is))

pub invariant_of-next : goal.invariant_of-next
invariant_of-next g c =
    let shown = c.append.new.self.desk.shown.value in let published = c.publish_as-writer.ensures in let now = c.publish_as-writer.result.0.desk.shown.value in let e = c.self.inside.edition in
    let step = c.adding.result in
    let went = published.succeeds tt in
    let alone = is_alone _ _ step c.in-Ok.ensures.pending c.self.invariant.settled in
    let values = when_ok _ _ c.publish_as-writer.result.1 published.values went in
    let before : IsSame (shown.edits.items, shown.ended) (e.edits, e.ended) = ap (λ d. (d.shown.value.edits.items, d.shown.value.ended)) c.in-Ok.ensures.desk ∙ (λ i. (sym c.self.invariant.shown.0 i, sym c.self.invariant.shown.1 i)) in
    let taken : IsSame (now.edits.items, now.ended) (c.apply.new.self.edits, c.apply.new.self.ended) =
    taken_alone _ _ _ step alone values.0 ∙ ap (λ s. taken_in s step) before ∙ add_is e c.apply.new.self c.args.edit.now step c.apply.result c.adding.ensures c.in_default.ensures c.apply.ensures.step in
    shown_again now.edits.items now.ended _ _ _ c.apply.new.self taken values.1 (when_ok _ _ c.publish_as-writer.result.1 published.rule went)
