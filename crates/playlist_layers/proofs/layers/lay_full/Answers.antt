use Rattle.std.proofs.Common.{◌+◌, ◌*◌, arith}
use Rattle.mix_kernel.proofs.NearLemmas.{near_more}
use Rattle.playlist_layers.proofs.layers.lay_full.Goals as goal

pub returns-clause-near : goal.returns-clause-near
returns-clause-near c = λ b near.
    near_more (b + 0 + c.args.region.now.gain * 32768) (b + 8589934592) c.add_even.new.sums (omega arith)
    (c.add_even.ensures.near (b + 0) (c.leave.ensures.near b near))

pub add_even-requires-clause-near : goal.add_even-requires-clause-near
add_even-requires-clause-near c = near_more 17592186044416 281474976710656 c.leave.new.sums (omega arith) (c.leave.ensures.near 17592186044416 c.requires.near)
