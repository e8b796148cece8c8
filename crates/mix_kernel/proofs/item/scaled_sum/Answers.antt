use Rattle.std.proofs.Common.{◌∙◌, sym, ap, subst, ℤ, pos, ◌+ℤ◌, ◌*ℤ◌, arith, rules, FitsSigned, w32, w64}
use Rattle.std.proofs.lemmas.Int.{to_z-of_z}
use Rattle.mix_kernel.specs.Bounds.{IsNear}
use Rattle.mix_kernel.proofs.Formulas.{scale-near}
use Rattle.mix_kernel.proofs.Parts.{by_parts}
use Rattle.mix_kernel.proofs.item.scaled_sum.Goals as goal

pub returns-clause-value : goal.returns-clause-value
returns-clause-value c =
    let high : ℤ = c.parts-high.result.0 in
    let high_fits : FitsSigned w32 high = search rules in
    let product_fits : FitsSigned w64 c.product.result = search rules in
    let low_fits : FitsSigned w64 c.scaled_low.result = search rules in
    let both_fit : FitsSigned w64 (c.product.result +ℤ c.scaled_low.result) = search rules in
    let whole = sym (to_z-of_z w64 c.args.sum c.ranges.sum) ∙ c.parts-high.ensures.whole in
    rw (to_z-of_z w64 c.product.result product_fits, to_z-of_z w64 c.scaled_low.result low_fits)
    (to_z-of_z w64 (c.product.result +ℤ c.scaled_low.result) both_fit
    ∙ ap (λ p. p +ℤ c.scaled_low.result) (c.product.ensures.value ∙ ap (λ h. h *ℤ pos c.args.g) (to_z-of_z w32 high high_fits))
    ∙ ap (λ l. high *ℤ pos c.args.g +ℤ l) c.scaled_low.ensures
    ∙ sym (by_parts high c.parts-high.result.1 c.args.g c.args.sum whole c.parts-high.ensures.low))

pub returns-clause-near : goal.returns-clause-near
returns-clause-near c =
    subst (IsNear 17592186044416) (sym (returns-clause-value c))
    (scale-near c.args.sum c.args.g 17592186044416 65536 17592186044416 c.requires.near c.requires.quiet (omega arith))
