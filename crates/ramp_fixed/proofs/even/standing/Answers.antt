use Rattle.std.proofs.Common.{◌<◌, get_or, subst, arith}
use Rattle.std.proofs.lemmas.List.{get_or-map, length-map}
use Rattle.sound_model.specs.Lanes as sound
use Rattle.ses_units.specs.Point.{point_of}
use Rattle.ramp_fixed.proofs.even.standing.Goals as goal

pub returns-clause-after : goal.returns-clause-after
returns-clause-after c = λ k d m l.
    let points = c.args.points.now in
    let past = c.count_through.ensures.after k d (omega arith) l in
    let near : (get_or points k d).at < 1099511627776 = subst (λ (p : sound.Point). p.at < 1099511627776) (get_or-map point_of points k d (point_of d) l) (c.requires.lane.near k (point_of d) (omega (arith, length-map points point_of))) in
    omega arith
