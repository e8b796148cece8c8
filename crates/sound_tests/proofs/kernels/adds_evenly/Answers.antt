use Rattle.std.proofs.Common.{arith}
use Rattle.mix_kernel.proofs.NearLemmas.{near_more}
use Rattle.sound_tests.proofs.Blocks.{front_near}
use Rattle.sound_tests.proofs.kernels.adds_evenly.Goals as goal

pub add_even-requires-clause-near : goal.add_even-requires-clause-near
add_even-requires-clause-near c = near_more 17592186044416 281474976710656 _ (omega arith) (front_near 17592186044416 c.args.n _ c.sums_of-sums.ensures)
