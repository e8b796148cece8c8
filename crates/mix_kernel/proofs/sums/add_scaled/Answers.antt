use Rattle.std.proofs.Common.{◌≡◌, ℕ, ◌+◌, ◌*◌, ℤ, pos, ◌+ℤ◌, get_or, length, refl, ◌∙◌, sym, arith, rules, subst, FitsSigned, w32, w64, below_more, to_z, of_z}
use Rattle.std.proofs.lemmas.Int.{to_z-of_z}
use Rattle.sound_model.specs.Numbers.{scale}
use Rattle.mix_kernel.specs.Bounds.{AllNear}
use Rattle.mix_kernel.proofs.Items.{Written, written_more, written_all}
use Rattle.mix_kernel.proofs.Formulas.{length-summed, item-summed, near-summed}
use Rattle.mix_kernel.proofs.sums.add_scaled.Goals as goal

pub loop-i-preserved : goal.loop-i-preserved
loop-i-preserved c =
    let f : ℕ → ℤ = λ k. get_or c.args.sums.now k (pos 0) +ℤ scale (get_or c.args.samples.now k (pos 0)) (get_or c.args.gains.now k 0) in
    let fits : FitsSigned w64 c.added.result = search rules in
    let sum_fits : FitsSigned w64 (get_or c.loop-i.sums c.loop-i.i (pos 0)) = search rules in
    let sample_fits : FitsSigned w32 (get_or c.args.samples.now c.loop-i.i (pos 0)) = search rules in
    let stands = c.loop-i.invariant.written.left c.loop-i.i (omega arith) in
    record {
      read = below_more _ _ c.loop-i.invariant.read sample_fits;
      written = written_more f c.args.sums.now c.loop-i.sums c.loop-i.i (to_z w64 (of_z w64 c.added.result)) (omega arith)
          (to_z-of_z w64 c.added.result fits ∙ c.added.ensures
          ∙ rw (to_z-of_z w64 (get_or c.loop-i.sums c.loop-i.i (pos 0)) sum_fits, to_z-of_z w32 (get_or c.args.samples.now c.loop-i.i (pos 0)) sample_fits, stands) refl)
          c.loop-i.invariant.written;
    }

pub returns-clause-sums : goal.returns-clause-sums
returns-clause-sums c =
    let f : ℕ → ℤ = λ k. get_or c.args.sums.now k (pos 0) +ℤ scale (get_or c.args.samples.now k (pos 0)) (get_or c.args.gains.now k 0) in
    let long = length-summed c.args.sums.now c.args.samples.now c.args.gains.now c.requires.samples c.requires.gains in
    let kept : length c.loop-i.sums ≡ length c.args.sums.now = search rules in
    let through : c.loop-i.i ≡ length c.loop-i.sums = omega arith in
    written_all f c.args.sums.now c.loop-i.sums _ (kept ∙ sym long) (subst (λ i. Written f c.args.sums.now c.loop-i.sums i) through c.loop-i.invariant.written)
    (λ k h. item-summed c.args.sums.now c.args.samples.now c.args.gains.now c.requires.samples c.requires.gains k (omega arith))

pub returns-clause-near : goal.returns-clause-near
returns-clause-near c = λ m quiet b near.
    subst (AllNear (b + m * 32768)) (sym (returns-clause-sums c))
    (near-summed c.args.sums.now c.args.samples.now c.args.gains.now c.requires.samples c.requires.gains m (m * 32768) (omega arith) quiet (λ k h. c.loop-i.invariant.read k (omega arith)) b near)
