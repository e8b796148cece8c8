-- Points that are refused for nothing make a lane.
use Rattle.std.proofs.Common.{sym, ◌∙◌}
use Rattle.ses_units.specs.Point.{points_of}
use Rattle.ses_units.proofs.RefusalLemmas.{IsLane-accepted, IsBroken-refused}
use Rattle.ses_units.proofs.EditLemmas.{quiet-points}
use Rattle.ses_units.proofs.lane.Lane.new.Goals as goal

pub invariant_of-result : goal.invariant_of-result
invariant_of-result c =
    (rw c.in-Ok.ensures.items (IsLane-accepted (points_of c.args.points.now) (sym c.first_refusal.ensures ∙ c.in_default.is) (quiet-points c.args.points.now c.in-Ok.ensures.quiet)), c.in-Ok.ensures.capacity)

pub returns-clause-lane : goal.returns-clause-lane
returns-clause-lane c = (invariant_of-result c).0

pub returns-in-Some-clause-broken : goal.returns-in-Some-clause-broken
returns-in-Some-clause-broken c = IsBroken-refused (points_of c.args.points.now) _ (sym c.first_refusal.ensures ∙ c.in-Some.is)
