use Rattle.std.proofs.Common.{arith}
use Rattle.report_check.proofs.FormLemmas.{head_fits, one_channel, two_channels, width}
use Rattle.report_check.proofs.form.master_head.Goals as goal

pub header-requires-clause-one_channel : goal.header-requires-clause-one_channel
header-requires-clause-one_channel c = omega (arith, c.master_channels.ensures, one_channel c.args.s.now c.requires.valid)

pub header-requires-clause-eight_channels : goal.header-requires-clause-eight_channels
header-requires-clause-eight_channels c = omega (arith, c.master_channels.ensures, two_channels c.args.s.now c.requires.valid)

pub header-requires-clause-size : goal.header-requires-clause-size
header-requires-clause-size c = head_fits c.from.result c.from-2.result c.master_channels.result _
    (omega (arith, c.from.ensures, c.requires.few)) (omega (arith, c.from-2.ensures, c.requires.valid.formed.limits.block.most))
    (omega (arith, c.master_channels.ensures, two_channels c.args.s.now c.requires.valid)) (width c.args.s.now.bits)
