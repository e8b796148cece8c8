-- The point after those before the place stands at it, or none does.
use Rattle.std.proofs.Common.{◌≡◌, get_or, arith, sym, ap, ◌∙◌}
use Rattle.std.proofs.lemmas.List.{get_or_read, get_or-map, length-map}
use Rattle.sound_model.specs.Lanes as sound
use Rattle.ses_units.specs.declared.point.Point.{Point}
use Rattle.ses_units.specs.Point.{point_of, points_of}
use Rattle.ses_units.proofs.LaneLemmas.{gain_standing-found}
use Rattle.ses_units.proofs.PointLemmas.{rising_items, PartsAt-found, PartsAt-missing}
use Rattle.ses_units.proofs.lane.index_of.Goals as goal
use Rattle.ses_units.proofs.lane.index_of.Goals.{else-i-points-via-then-i-points+else-points-i, else-i-points-via-else-i-points}

pub returns-then-points-i-clause-found : goal.returns-then-points-i-clause-found
returns-then-points-i-clause-found c =
    let points = c.args.points.now in
    let there = λ (d : Point). ap (λ (q : Point). q.at) (sym (get_or_read points _ _ c.if-i-points.true c.index-points-i.is d) ∙ c.index-points-i.is) ∙ c.if-points-i.true in
    PartsAt-found c.args.place c.count_before-i.result points (rising_items points c.requires.rising) c.if-i-points.true there c.count_before-i.ensures.before

pub returns-then-points-i-clause-stands : goal.returns-then-points-i-clause-stands
returns-then-points-i-clause-stands c =
    let points = c.args.points.now in
    let i = c.count_before-i.result in
    let q = c.index-points-i.result in
    let seen : get_or (points_of points) i (point_of q) ≡ point_of (get_or points i q) = get_or-map point_of points i q (point_of q) c.if-i-points.true in
    gain_standing-found (points_of points) i c.args.place (point_of q) (omega (arith, c.if-i-points.true, length-map points point_of))
    (ap (λ (r : sound.Point). r.at) seen ∙ c.if-points-i.true)

pub returns-else-i-points-clause-missing : goal.returns-else-i-points-clause-missing
returns-else-i-points-clause-missing c =
    let points = c.args.points.now in
    let says = c.count_before-i.ensures in
    PartsAt-missing c.args.place c.count_before-i.result points (rising_items points c.requires.rising) says.bound says.before says.after
    (λ d h e. elim c.else-i-points.branch [
      | else-i-points-via-then-i-points+else-points-i w ↦ w.if-points-i.false (ap (λ (q : Point). q.at) (sym w.index-points-i.is ∙ get_or_read points _ _ h w.index-points-i.is d) ∙ e)
      | else-i-points-via-else-i-points w ↦ absurd (omega arith)
    ])
