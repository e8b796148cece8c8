use Rattle.std.proofs.Common.{arith}
use Rattle.std.proofs.lemmas.Bool.Decides.{nat_tests}
use Rattle.ses_units.specs.Refusal.{first_fall}
use Rattle.ses_units.proofs.PointLemmas.{fall_after_next}
use Rattle.ses_units.proofs.refusal.first_fall.Goals as goal

pub returns-then-p-before : goal.returns-then-p-before
unfolding first_fall
returns-then-p-before c =
    let step = fall_after_next c.loop-i.before c.loop-i.i c.loop-i.i c.in_ok-first.others.now c.index-others-i.result c.loop-i-test.true c.index-others-i.is in
    grind (arith, nat_tests, c.loop-i.invariant, step)

pub loop-i-preserved : goal.loop-i-preserved
unfolding first_fall
loop-i-preserved c =
    let step = fall_after_next c.loop-i.before c.loop-i.i c.loop-i.i c.in_ok-first.others.now c.index-others-i.result c.loop-i-test.true c.index-others-i.is in
    grind (arith, nat_tests, c.loop-i.invariant, step)
