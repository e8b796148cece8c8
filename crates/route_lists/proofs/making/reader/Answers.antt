use Rattle.std.proofs.Common.{ap, ◌∙◌}
use Rattle.route_lists.proofs.RuleLemmas.{admits}
use Rattle.route_lists.proofs.ReadLemmas.{kept_new}
use Rattle.route_lists.proofs.making.reader.Goals as goal

pub reader-requires : goal.reader-requires
reader-requires g c = admits

pub invariant_of-result : goal.invariant_of-result
invariant_of-result g c = let is = c.lists.view_is in
    kept_new _ _ _ c.lists.inside.edition c.in_ok-reader.ensures.view c.in_ok-try_clone.ensures c.in_ok-try_clone-2.ensures (ap (λ z. z.edition.edits) is ∙ c.requires.0) (ap (λ z. z.edition.ended) is ∙ c.requires.1)
