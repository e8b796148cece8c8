use Rattle.std.proofs.Common.{◌≡◌, ◌<◌, ◌+◌, length, get_or, sym, ap, ◌∙◌, arith}
use Rattle.std.proofs.lemmas.List.{length_push}
use Rattle.route_lists.proofs.ReadLemmas.{next_follows}
use Rattle.route_lists.proofs.catching_up.catch_up.Goals as goal

pub loop-at-preserved : goal.loop-at-preserved
loop-at-preserved c =
    let edits = c.args.shelf.now.edits.items in let e = c.loop-at.edition in let edit = c.index-as_slice-at.result in let was = c.loop-at.invariant in
    let left : length e.edits < length edits = omega (arith, was.1) in
    let there : edit ≡ get_or edits (length e.edits) edit = c.index-as_slice-at.is ∙ ap (λ l. get_or l c.loop-at.at edit) c.as_slice.ensures.items ∙ ap (λ n. get_or edits n edit) (sym was.1) in
    let longer = c.in-Ok.ensures.step.2 in (
      next_follows edits c.args.shelf.now.ended e was.0 c.apply.new.self edit left longer c.in-Ok.ensures.step.3 there,
      ap length longer ∙ length_push e.edits edit ∙ ap (λ n. n + 1) was.1,
      λ s is. c.apply.ensures.stays s (was.2 s is),
    )
