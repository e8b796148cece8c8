use Rattle.std.proofs.Common.{◌≡◌, ◌∙◌, ap, sym, arith}
use Rattle.mix_kernel.specs.Blocks.{scaled_evenly, laid_over}
use Rattle.mix_kernel.proofs.NearLemmas.{goes_more}
use Rattle.playlist_layers.proofs.Numbers.{even_unity, even_clipped}
use Rattle.playlist_layers.proofs.layers.lay_faded.Goals as goal

pub returns-then-value-eq-UNITY-clause-sums : goal.returns-then-value-eq-UNITY-clause-sums
returns-then-value-eq-UNITY-clause-sums c =
    let unity : c.args.region.now.gain ≡ 65536 = omega (arith, c.value.ensures.value) in
    c.lay_over.ensures.sums
    ∙ ap (λ ss. laid_over c.args.sums.now ss c.args.gains.now c.args.region.now.opaque) (sym (ap (scaled_evenly c.args.samples.now) unity ∙ even_unity c.args.samples.now))

pub returns-then-value-eq-UNITY-clause-near : goal.returns-then-value-eq-UNITY-clause-near
returns-then-value-eq-UNITY-clause-near c = goes_more 2147483648 8589934592 c.args.sums.now c.lay_over.new.sums (omega arith) c.lay_over.ensures.near

pub returns-else-value-eq-UNITY-clause-sums : goal.returns-else-value-eq-UNITY-clause-sums
returns-else-value-eq-UNITY-clause-sums c =
    c.lay_over-else-value-eq-UNITY.ensures.sums
    ∙ ap (λ ss. laid_over c.args.sums.now ss c.args.gains.now c.args.region.now.opaque)
    (c.scale_block.ensures ∙ even_clipped c.args.samples.now c.args.region.now.gain c.requires.range c.requires.limits.gain)

pub returns-else-value-eq-UNITY-clause-near : goal.returns-else-value-eq-UNITY-clause-near
returns-else-value-eq-UNITY-clause-near c = goes_more 2147483648 8589934592 c.args.sums.now c.lay_over-else-value-eq-UNITY.new.sums (omega arith) c.lay_over-else-value-eq-UNITY.ensures.near
