-- What the search answers over the slice is the same over the points as the sound counts them.
use Rattle.std.proofs.Common.{◌^◌, nat_le, sym, ◌∙◌, rules, tests}
use Rattle.std.proofs.lemmas.Iterator.{YieldsList-from_slice}
use Rattle.std.proofs.lemmas.Iterator.Search.{position_from_yields_List}
use Rattle.ses_units.proofs.PointLemmas.{first_far_points}
use Rattle.ses_units.proofs.refusal.first_far.Goals as goal

pub returns-clause-value : goal.returns-clause-value
returns-clause-value c =
    position_from_yields_List (λ q. nat_le (2 ^ 40) q.at) _ _ _ c.position.ensures.ran
    (YieldsList-from_slice c.args.points.now cc) (λ x b q k. search (rules, tests))
    ∙ sym (first_far_points c.args.points.now)
