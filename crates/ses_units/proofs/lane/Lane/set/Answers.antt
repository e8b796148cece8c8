-- The point is written over the one at its place, or between those before and after it.
use Rattle.std.proofs.Common.{◌≡◌, ◌<◌, length, insert, ap, ◌∙◌, arith, rules}
use Rattle.std.proofs.lemmas.List.{length-map}
use Rattle.ses_units.specs.Point.{point_of}
use Rattle.ses_units.specs.Lane.{with_point}
use Rattle.ses_units.proofs.LaneLemmas.{ChangesGain-set}
use Rattle.ses_units.proofs.EditLemmas.{with_point-set, with_point-insert, IsLane-set, IsLane-insert}
use Rattle.ses_units.proofs.lane.Lane.set.Goals as goal

-- ---- a point stands there

pub invariant_of-self : goal.invariant_of-self
invariant_of-self c =
    let found = rw c.deref.ensures.value at c.in-Ok.ensures in
    (IsLane-set c.self.inside.points.items c.in-Ok.i c.args.p c.self.invariant.0 c.requires c.value-number.ensures.bound found.bound found.found, c.self.invariant.1)

pub returns-in-Ok-clause-points : goal.returns-in-Ok-clause-points
returns-in-Ok-clause-points c =
    let found = rw c.deref.ensures.value at c.in-Ok.ensures in
    with_point-set c.self.inside.points.items c.in-Ok.i c.args.p found.bound found.found ∙ ap (λ ps. with_point ps (point_of c.args.p)) c.self.view_is

pub returns-in-Ok-clause-gains : goal.returns-in-Ok-clause-gains
returns-in-Ok-clause-gains c = ChangesGain-set _ _ (point_of c.args.p) (returns-in-Ok-clause-points c)

-- ---- none does, and there is room

pub invariant_of-self-in-Err : goal.invariant_of-self-in-Err
invariant_of-self-in-Err c =
    let missing = rw c.deref.ensures.value at c.in-Err.ensures in
    let items : c.insert.new.self.items ≡ insert c.self.inside.points.items c.in-Err.i c.args.p = search rules in
    let room : length c.self.inside.points.items < 1024 = omega (arith, c.self.invariant.0.few, length-map c.self.inside.points.items point_of, c.self.inside.points.ok.0) in (
      rw items (IsLane-insert c.self.inside.points.items c.in-Err.i c.args.p c.self.invariant.0 c.requires c.value-number.ensures.bound room missing.bound missing.missing),
      omega (arith, c.self.invariant.1),
    )

pub returns-else-len-eq-POINTS-clause-points : goal.returns-else-len-eq-POINTS-clause-points
returns-else-len-eq-POINTS-clause-points c =
    let missing = rw c.deref.ensures.value at c.in-Err.ensures in
    let items : c.insert.new.self.items ≡ insert c.self.inside.points.items c.in-Err.i c.args.p = search rules in
    rw items (with_point-insert c.self.inside.points.items c.in-Err.i c.args.p missing.missing ∙ ap (λ ps. with_point ps (point_of c.args.p)) c.self.view_is)

pub returns-else-len-eq-POINTS-clause-gains : goal.returns-else-len-eq-POINTS-clause-gains
returns-else-len-eq-POINTS-clause-gains c = ChangesGain-set _ _ (point_of c.args.p) (returns-else-len-eq-POINTS-clause-points c)
