use Rattle.std.proofs.Common.{arith}
use Rattle.master_file.proofs.SizeLemmas.{all_bytes, two_channels}
use Rattle.master_file.proofs.form.data_long.Goals as goal

pub returns-clause-most : goal.returns-clause-most
returns-clause-most c = all_bytes c.from-3.result c.from.result c.from-2.result c.sample_long.result
    (omega (arith, c.from-3.ensures, c.requires.few)) (omega (arith, c.from.ensures, c.requires.valid.formed.limits.block.most))
    (omega (arith, c.from-2.ensures, c.master_channels.ensures, two_channels c.args.s.now c.requires.valid)) c.sample_long.ensures.most
