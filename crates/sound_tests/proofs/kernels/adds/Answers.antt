use Rattle.sound_tests.proofs.Blocks.{front_near, front_at_most}
use Rattle.sound_tests.proofs.kernels.adds.Goals as goal

pub add_scaled-requires-clause-near : goal.add_scaled-requires-clause-near
add_scaled-requires-clause-near c = front_near 17592186044416 c.args.n _ c.sums_of-sums.ensures

pub add_scaled-requires-clause-quiet : goal.add_scaled-requires-clause-quiet
add_scaled-requires-clause-quiet c = front_at_most 262144 c.args.n _ c.gains_of-gains.ensures
