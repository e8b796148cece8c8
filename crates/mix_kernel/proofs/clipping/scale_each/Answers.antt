use Rattle.std.proofs.Common.{◌≡◌, ℕ, ℤ, List, refl, pos, get_or, length, ◌∙◌, sym, ap, arith, rules, subst, FitsSigned, w32, to_z, of_z}
use Rattle.std.proofs.lemmas.Int.{to_z-of_z}
use Rattle.std.proofs.lemmas.List.{length-map, get_or-map}
use Rattle.sound_model.specs.Numbers.{scale, clip}
use Rattle.mix_kernel.specs.Blocks.{scaled}
use Rattle.mix_kernel.proofs.Items.{Written, written_more, written_all}
use Rattle.mix_kernel.proofs.Formulas.{length-scaled, item-scaled}
use Rattle.mix_kernel.proofs.clipping.scale_each.Goals as goal

pub loop-i-preserved : goal.loop-i-preserved
loop-i-preserved c =
    let f : ℕ → ℤ = λ k. clip (scale (get_or c.args.samples.now k (pos 0)) (get_or c.args.gains.now k 0)) in
    let fits : FitsSigned w32 c.clipped_sample.result = search rules in
    let item_fits : FitsSigned w32 (get_or c.args.samples.now c.loop-i.i (pos 0)) = search rules in
    written_more f c.args.out.now c.loop-i.out c.loop-i.i (to_z w32 (of_z w32 c.clipped_sample.result)) (omega arith)
    (to_z-of_z w32 c.clipped_sample.result fits ∙ c.clipped_sample.ensures
    ∙ ap (λ s. clip (scale s (get_or c.args.gains.now c.loop-i.i 0))) (to_z-of_z w32 (get_or c.args.samples.now c.loop-i.i (pos 0)) item_fits))
    c.loop-i.invariant

pub returns : goal.returns
returns c =
    let samples : List ℤ = c.args.samples.now in
    let gains : List ℕ = c.args.gains.now in
    let f : ℕ → ℤ = λ k. clip (scale (get_or samples k (pos 0)) (get_or gains k 0)) in
    let kept : length c.loop-i.out ≡ length c.args.out.now = search rules in
    let through : c.loop-i.i ≡ length c.loop-i.out = omega arith in
    let same : length gains ≡ length samples = c.requires.gains ∙ sym c.requires.samples in
    let long : length (scaled samples gains) ≡ length samples = length-scaled samples samples gains refl same in
    written_all f c.args.out.now c.loop-i.out _ (kept ∙ sym c.requires.samples ∙ sym long ∙ sym (length-map (scaled samples gains) clip)) (subst (λ i. Written f c.args.out.now c.loop-i.out i) through c.loop-i.invariant)
    (λ k h. ap clip (sym (item-scaled samples samples gains refl same k (omega arith)))
    ∙ sym (get_or-map clip (scaled samples gains) k (pos 0) (pos 0) (omega arith)))
