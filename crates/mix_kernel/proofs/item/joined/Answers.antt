use Rattle.std.proofs.Common.{◌+ℤ◌, ap, ◌∙◌, rules, FitsSigned, w32, w64}
use Rattle.std.proofs.lemmas.Int.{to_z-of_z}
use Rattle.sound_model.specs.Numbers.{scale}
use Rattle.mix_kernel.proofs.item.joined.Goals as goal

pub returns : goal.returns
returns c =
    let once : FitsSigned w64 c.scaled_sample.result = search rules in
    let sample : FitsSigned w32 c.args.s = search rules in
    let sum : FitsSigned w64 c.args.sum = search rules in
    let twice : FitsSigned w64 c.scaled.result = search rules in
    let total : FitsSigned w64 (c.args.sum +ℤ c.scaled.result) = search rules in
    rw (to_z-of_z w64 c.args.sum sum, to_z-of_z w64 c.scaled.result twice)
    (to_z-of_z w64 (c.args.sum +ℤ c.scaled.result) total
    ∙ ap (λ v. c.args.sum +ℤ v) (c.scaled.ensures.value ∙ ap (λ v. scale v c.args.side) (to_z-of_z w64 c.scaled_sample.result once ∙ c.scaled_sample.ensures.value ∙ ap (λ s. scale s c.args.g) (to_z-of_z w32 c.args.s sample))))
