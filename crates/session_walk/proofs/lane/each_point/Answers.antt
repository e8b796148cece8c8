-- One more point, or none.
use Rattle.std.proofs.Common.{sym, ◌∙◌, ap, Some}
use Rattle.toml.specs.View.{view}
use Rattle.session_walk.specs.Lane.{point_of}
use Rattle.session_walk.proofs.EachLaws.{each_step, each_stop}
use Rattle.session_walk.proofs.lane.each_point.Goals as goal

pub returns-in_default : goal.returns-in_default
returns-in_default c = sym (each_stop point_of view c.args.values.now c.loop-value.value-index c.value-item.result c.loop-value-test.true
    (cc (c.in_default.is, c.point_of.ensures, c.value-item.is)))

pub loop-value-preserved : goal.loop-value-preserved
loop-value-preserved c = each_step point_of view c.args.values.now c.loop-value.points.items c.loop-value.value-index c.value-item.result c.in-Some.point c.loop-value-test.true
    c.loop-value.invariant (cc (c.in-Some.is, c.point_of.ensures, c.value-item.is)) ∙ ap Some (sym c.in_ok-push.ensures.items)
