use Rattle.std.proofs.Common.{◌≤◌, refl, sym, ap, subst, ◌∙◌, arith}
use Rattle.std.proofs.lemmas.List.{length-map}
use Rattle.sound_model.specs.Lanes as sound
use Rattle.ses_units.specs.Point.{point_of, points_of}
use Rattle.ramp_fixed.proofs.LaneLaws.{rise_by_pairs}
use Rattle.ramp_fixed.proofs.EvenLanes.{item, flat_stays, flat_is_even, even_is_flat}
use Rattle.ramp_fixed.proofs.even.even_play.Goals as goal

pub returns-then-are_flat-clause-gain : goal.returns-then-are_flat-clause-gain
returns-then-are_flat-clause-gain c = λ x on m.
    let points = c.args.points.now in
    let from = c.standing-from.result in
    let p = c.index-points-from.result in
    let read = item points from p (point_of p) c.standing-from.ensures.bound in
    flat_stays c.args.fader (points_of points) from c.args.first c.args.last (point_of p) (rise_by_pairs (points_of points) c.requires.rising) (omega (arith, length-map points point_of))
    (λ some. subst (λ (q : sound.Point). q.at ≤ c.args.first) (sym read) (c.standing-from.ensures.through some from p (omega arith) (omega arith)))
    (c.are_flat.ensures.0 c.if-are_flat.true) x on m
    ∙ ap (λ (q : sound.Point). q.gain) read

pub returns-then-are_flat-clause-even : goal.returns-then-are_flat-clause-even
returns-then-are_flat-clause-even c =
    (λ t. flat_is_even c.args.points.now c.standing-from.result c.args.first c.args.last c.standing-from.ensures.through (c.are_flat.ensures.0 c.if-are_flat.true), λ even. refl)

pub returns-else-are_flat-clause-even : goal.returns-else-are_flat-clause-even
returns-else-are_flat-clause-even c = (
  λ t. cc,
  λ even.
      let flat = c.are_flat.ensures.1 (even_is_flat c.args.points.now c.standing-from.result c.args.first c.args.last c.standing-from.ensures.after even) in
      let not = c.if-are_flat.false in cc,
)
