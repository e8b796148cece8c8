use Rattle.std.proofs.Common.{◌∙◌, sym, ap}
use Rattle.mix_kernel.specs.Blocks.{laid_over}
use Rattle.mix_kernel.proofs.Formulas.{transparent}
use Rattle.mix_kernel.proofs.layers.lay_over.Goals as goal

pub returns-else-opaque-clause-sums : goal.returns-else-opaque-clause-sums
returns-else-opaque-clause-sums c =
    c.add_scaled.ensures.sums ∙ transparent c.args.sums.now c.args.samples.now c.args.fades.now
    ∙ ap (laid_over c.args.sums.now c.args.samples.now c.args.fades.now) (sym c.if-opaque.false)

pub returns-else-opaque-clause-near : goal.returns-else-opaque-clause-near
returns-else-opaque-clause-near c = λ b near. c.add_scaled.ensures.near 65536 c.requires.quiet b near
