use Rattle.std.proofs.Common.{◌≡◌, ℕ, ℤ, pos, get_or, length, ◌∙◌, sym, ap, arith, rules, subst, FitsSigned, w32, to_z, of_z}
use Rattle.std.proofs.lemmas.Int.{to_z-of_z}
use Rattle.std.proofs.lemmas.List.{length-map, get_or-map}
use Rattle.sound_model.specs.Numbers.{scale, clip}
use Rattle.mix_kernel.specs.Blocks.{scaled_evenly}
use Rattle.mix_kernel.proofs.Items.{Written, written_more, written_all}
use Rattle.mix_kernel.proofs.clipping.scale_block.Goals as goal

pub loop-i-preserved : goal.loop-i-preserved
loop-i-preserved c =
    let f : ℕ → ℤ = λ k. clip (scale (get_or c.args.samples.now k (pos 0)) c.value-gain.result) in
    let fits : FitsSigned w32 c.clipped_sample.result = search rules in
    let item_fits : FitsSigned w32 (get_or c.args.samples.now c.loop-i.i (pos 0)) = search rules in
    written_more f c.args.out.now c.loop-i.out c.loop-i.i (to_z w32 (of_z w32 c.clipped_sample.result)) (omega arith)
    (to_z-of_z w32 c.clipped_sample.result fits ∙ c.clipped_sample.ensures
    ∙ ap (λ s. clip (scale s c.value-gain.result)) (to_z-of_z w32 (get_or c.args.samples.now c.loop-i.i (pos 0)) item_fits))
    c.loop-i.invariant

pub returns : goal.returns
returns c =
    let f : ℕ → ℤ = λ k. clip (scale (get_or c.args.samples.now k (pos 0)) c.value-gain.result) in
    let kept : length c.loop-i.out ≡ length c.args.out.now = search rules in
    let through : c.loop-i.i ≡ length c.loop-i.out = omega arith in
    written_all f c.args.out.now c.loop-i.out _ (kept ∙ sym (c.requires) ∙ sym (length-map c.args.samples.now (λ s. scale s c.args.gain)) ∙ sym (length-map (scaled_evenly c.args.samples.now c.args.gain) clip)) (subst (λ i. Written f c.args.out.now c.loop-i.out i) through c.loop-i.invariant)
    (λ k h. let long = length-map c.args.samples.now (λ s. scale s c.args.gain) in
    ap (λ g. clip (scale (get_or c.args.samples.now k (pos 0)) g)) c.value-gain.ensures.value
    ∙ ap clip (sym (get_or-map (λ s. scale s c.args.gain) c.args.samples.now k (pos 0) (pos 0) (omega arith)))
    ∙ sym (get_or-map clip (scaled_evenly c.args.samples.now c.args.gain) k (pos 0) (pos 0) (omega arith)))
