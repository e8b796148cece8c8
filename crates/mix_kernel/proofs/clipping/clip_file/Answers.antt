use Rattle.std.proofs.Common.{◌≡◌, ℕ, ℤ, pos, get_or, length, refl, ◌∙◌, sym, arith, rules, subst, FitsSigned, w32, to_z, of_z}
use Rattle.std.proofs.lemmas.Int.{to_z-of_z}
use Rattle.std.proofs.lemmas.List.{length-map, get_or-map}
use Rattle.ses_units.specs.Bits.{bits_of}
use Rattle.sound_model.specs.Numbers.{file_sample}
use Rattle.mix_kernel.proofs.Items.{Written, written_more, written_all}
use Rattle.mix_kernel.proofs.clipping.clip_file.Goals as goal

pub loop-i-preserved : goal.loop-i-preserved
loop-i-preserved c =
    let f : ℕ → ℤ = λ k. file_sample (bits_of c.args.bits) (get_or c.args.samples.now k (pos 0)) in
    let fits : FitsSigned w32 c.file_sample.result = search rules in
    let item_fits : FitsSigned w32 (get_or c.args.samples.now c.loop-i.i (pos 0)) = search rules in
    written_more f c.args.out.now c.loop-i.out c.loop-i.i (to_z w32 (of_z w32 c.file_sample.result)) (omega arith)
    (to_z-of_z w32 c.file_sample.result fits ∙ c.file_sample.ensures.value ∙ rw (to_z-of_z w32 (get_or c.args.samples.now c.loop-i.i (pos 0)) item_fits) refl)
    c.loop-i.invariant

pub returns : goal.returns
returns c =
    let f : ℕ → ℤ = λ k. file_sample (bits_of c.args.bits) (get_or c.args.samples.now k (pos 0)) in
    let kept : length c.loop-i.out ≡ length c.args.out.now = search rules in
    let through : c.loop-i.i ≡ length c.loop-i.out = omega arith in
    written_all f c.args.out.now c.loop-i.out _ (kept ∙ sym (c.requires) ∙ sym (length-map c.args.samples.now (file_sample (bits_of c.args.bits)))) (subst (λ i. Written f c.args.out.now c.loop-i.out i) through c.loop-i.invariant)
    (λ k h. sym (get_or-map (file_sample (bits_of c.args.bits)) c.args.samples.now k (pos 0) (pos 0) (omega arith)))
