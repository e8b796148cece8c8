use Rattle.std.proofs.Common.{◌≤◌, arith, ap}
use Rattle.std.proofs.lemmas.Grind.{common_steps}
use Rattle.std.proofs.lemmas.List.Elements.{All-more}
use Rattle.ses_units.specs.declared.point.Point.{Point}
use Rattle.ses_units.proofs.lane.with_room.Goals as goal

pub loop-p-preserved : goal.loop-p-preserved
loop-p-preserved c = record {
  items = grind (arith, common_steps);
  capacity = omega arith;
  quiet = All-more (λ (p : Point). p.gain ≤ 262144) c.args.points.now c.loop-p.p-index c.p-item.result c.loop-p-test.true c.loop-p.invariant.quiet (omega (arith, ap (λ (p : Point). p.gain) c.p-item.is, c.value-number.ensures.bound));
}
