-- The point at the place is taken out, if one stands there.
use Rattle.std.proofs.Common.{◌≡◌, ◌≢◌, None, sym, ap, ◌∙◌, arith, refl}
use Rattle.ses_units.specs.Point.{points_of}
use Rattle.ses_units.specs.Lane.{without_point, gain_standing}
use Rattle.ses_units.proofs.LaneLemmas.{ChangesGain-unset, gain_standing-missing}
use Rattle.ses_units.proofs.EditLemmas.{without_point-remove, IsLane-remove}
use Rattle.ses_units.proofs.lane.Lane.unset.Goals as goal

pub returns-in_default-clause-absent : goal.returns-in_default-clause-absent
returns-in_default-clause-absent c =
    let missing = rw c.deref.ensures.value at c.in_default.ensures.missing in
    let none : gain_standing c.args.self.now c.args.at ≡ None =
    ap (λ ps. gain_standing ps c.args.at) (sym c.self.view_is) ∙ gain_standing-missing (points_of c.self.inside.points.items) _ c.args.at missing in
    (λ e. none, λ e. refl)

pub invariant_of-self : goal.invariant_of-self
invariant_of-self c =
    let found = rw c.deref.ensures.value at c.in-Ok.ensures.found in
    (rw c.remove.ensures.items (IsLane-remove c.self.inside.points.items c.in-Ok.i c.args.at c.self.invariant.0 found), omega (arith, c.self.invariant.1))

pub returns-clause-points : goal.returns-clause-points
returns-clause-points c =
    let found = rw c.deref.ensures.value at c.in-Ok.ensures.found in
    rw c.remove.ensures.items (without_point-remove c.self.inside.points.items c.in-Ok.i c.args.at found ∙ ap (λ ps. without_point ps c.args.at) c.self.view_is)

pub returns-clause-gains : goal.returns-clause-gains
returns-clause-gains c = ChangesGain-unset _ _ c.args.at (returns-clause-points c)

pub returns-clause-absent : goal.returns-clause-absent
returns-clause-absent c =
    let stands : gain_standing (points_of c.self.inside.points.items) c.args.at ≢ None = rw c.deref.ensures.value at c.in-Ok.ensures.stands in
    (λ e. absurd cc, λ e. absurd (stands (ap (λ ps. gain_standing ps c.args.at) c.self.view_is ∙ e)))
