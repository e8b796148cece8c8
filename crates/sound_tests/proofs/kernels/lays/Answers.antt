use Rattle.sound_tests.proofs.Blocks.{front_near, front_at_most}
use Rattle.sound_tests.proofs.kernels.lays.Goals as goal

pub lay_over-requires-clause-near : goal.lay_over-requires-clause-near
lay_over-requires-clause-near c = front_near 17592186044416 c.args.n _ c.sums_of-sums.ensures

pub lay_over-requires-clause-quiet : goal.lay_over-requires-clause-quiet
lay_over-requires-clause-quiet c = front_at_most 65536 c.args.n _ c.fades_of-fades.ensures
