use Rattle.std.proofs.Common.{◌≡◌, ◌<◌, length, get_or, ap, arith, ◌∙◌}
use Rattle.worker_pair.proofs.EnterLemmas.{catches_up, next_is, unended}
use Rattle.worker_pair.proofs.entering.catch_up.Goals as goal

-- src/entering.rt
pub apply-requires-clause-open : goal.apply-requires-clause-open
apply-requires-clause-open g c = let newest = c.args.newest.now in let e = c.loop-at.edition in let edit = c.index-edits-at.result in let so_far = c.loop-at.invariant in
    let within : c.loop-at.at < length newest.edits = omega arith in
    let is : edit ≡ get_or newest.edits c.loop-at.at edit = c.index-edits-at.is ∙ ap (λ l. get_or l c.loop-at.at edit) (c.as_slice-edits.ensures.items ∙ c.edits.ensures) in
    record {
      ended = so_far.ended ∙ c.requires.not_ended;
      quit = unended g.s newest e c.requires.newest_of so_far.edition_of so_far.begins edit (next_is newest.edits (length e.edits) c.loop-at.at edit within is so_far.many_are);
    }

pub loop-at-preserved : goal.loop-at-preserved
loop-at-preserved g c = let newest = c.args.newest.now in let e = c.loop-at.edition in let edit = c.index-edits-at.result in let so_far = c.loop-at.invariant in
    let within : c.loop-at.at < length newest.edits = omega arith in
    let is : edit ≡ get_or newest.edits c.loop-at.at edit = c.index-edits-at.is ∙ ap (λ l. get_or l c.loop-at.at edit) (c.as_slice-edits.ensures.items ∙ c.edits.ensures) in
    catches_up g.s newest e c.requires.newest_of so_far.edition_of so_far.begins edit (next_is newest.edits (length e.edits) c.loop-at.at edit within is so_far.many_are)
    c.args.edition.now c.loop-at.at c.apply.result c.apply.new.self so_far c.apply.ensures.step (c.apply.ensures.stays g.s)
