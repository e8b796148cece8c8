use Rattle.std.proofs.Common.{◌≡◌, ◌≢◌, ℕ, ◌+◌, ◌*◌, ℤ, pos, ◌+ℤ◌, get_or, set, length, List, refl, ◌∙◌, sym, ap, arith, rules, subst, FitsSigned, w32, w64, below_more, to_z, of_z}
use Rattle.std.proofs.lemmas.Int.{to_z-of_z}
use Rattle.std.proofs.lemmas.List.{get_or-set_other, length-set}
use Rattle.mix_kernel.specs.Blocks.{sided, summed}
use Rattle.mix_kernel.specs.Bounds.{AllNear}
use Rattle.mix_kernel.proofs.Items.{Written, written_more, written_all}
use Rattle.mix_kernel.proofs.SideLemmas.{length-both, item-both, left-sided, right-sided, near-both}
use Rattle.mix_kernel.proofs.sides.add_sides.Goals as goal

pub loop-i-preserved : goal.loop-i-preserved
loop-i-preserved c =
    let old : List ℤ = c.args.sums.now in
    let samples : List ℤ = c.args.samples.now in
    let i : ℕ = c.loop-i.i in
    let gain : ℕ = c.value-gain.result in
    let left : ℕ = c.value-left.result in
    let right : ℕ = c.value-right.result in
    let f : ℕ → ℤ = λ k. get_or (summed old (sided gain left right samples)) k (pos 0) in
    let sample_fits : FitsSigned w32 (get_or samples i (pos 0)) = search rules in
    let first_fits : FitsSigned w64 c.joined.result = search rules in
    let second_fits : FitsSigned w64 c.joined-in-loop-i.result = search rules in
    let one : FitsSigned w64 (get_or c.loop-i.sums (2 * i) (pos 0)) = search rules in
    let v : ℤ = to_z w64 (of_z w64 c.joined.result) in
    let between : List ℤ = set c.loop-i.sums (2 * i) v in
    let long : length between ≡ length c.loop-i.sums = length-set c.loop-i.sums (2 * i) v in
    let other : 2 * i + 1 ≢ 2 * i = omega arith in
    let two : FitsSigned w64 (get_or between (2 * i + 1) (pos 0)) = search rules in
    let first : v ≡ f (2 * i) =
    to_z-of_z w64 c.joined.result first_fits ∙ c.joined.ensures
    ∙ rw (to_z-of_z w64 (get_or c.loop-i.sums (2 * i) (pos 0)) one, to_z-of_z w32 (get_or samples i (pos 0)) sample_fits, c.loop-i.invariant.written.left (2 * i) (omega arith))
    (sym (item-both old gain left right samples c.requires.samples (2 * i) (omega arith) ∙ ap (λ z. get_or old (2 * i) (pos 0) +ℤ z) (left-sided gain left right samples i (2 * i) (omega arith) (omega arith)))) in
    let second : to_z w64 (of_z w64 c.joined-in-loop-i.result) ≡ f (2 * i + 1) =
    to_z-of_z w64 c.joined-in-loop-i.result second_fits ∙ c.joined-in-loop-i.ensures
    ∙ rw (
      to_z-of_z w64 (get_or between (2 * i + 1) (pos 0)) two,
      to_z-of_z w32 (get_or samples i (pos 0)) sample_fits,
      get_or-set_other c.loop-i.sums (2 * i) (2 * i + 1) v (pos 0) other,
      c.loop-i.invariant.written.left (2 * i + 1) (omega arith),
    )
    (sym (item-both old gain left right samples c.requires.samples (2 * i + 1) (omega arith) ∙ ap (λ z. get_or old (2 * i + 1) (pos 0) +ℤ z) (right-sided gain left right samples i (2 * i + 1) (omega arith) (omega arith)))) in
    let done : 2 * i + 1 + 1 ≡ 2 * (i + 1) = omega arith in
    record {
      read = below_more _ _ c.loop-i.invariant.read sample_fits;
      written = subst (Written f old (set between (2 * i + 1) (to_z w64 (of_z w64 c.joined-in-loop-i.result)))) done
          (written_more f old between (2 * i + 1) (to_z w64 (of_z w64 c.joined-in-loop-i.result)) (omega (arith, long)) second
          (written_more f old c.loop-i.sums (2 * i) v (omega arith) first c.loop-i.invariant.written));
    }

pub returns-clause-sums : goal.returns-clause-sums
returns-clause-sums c =
    let old : List ℤ = c.args.sums.now in
    let samples : List ℤ = c.args.samples.now in
    let f : ℕ → ℤ = λ k. get_or (summed old (sided c.value-gain.result c.value-left.result c.value-right.result samples)) k (pos 0) in
    let goal_of : ℕ → ℕ → ℕ → List ℤ = λ g l r. summed old (sided g l r samples) in
    let kept : length c.loop-i.sums ≡ length old = search rules in
    let through : 2 * c.loop-i.i ≡ length c.loop-i.sums = omega arith in
    written_all f old c.loop-i.sums (goal_of c.value-gain.result c.value-left.result c.value-right.result)
    (kept ∙ sym (length-both old c.value-gain.result c.value-left.result c.value-right.result samples c.requires.samples))
    (subst (λ n. Written f old c.loop-i.sums n) through c.loop-i.invariant.written) (λ k h. refl)
    ∙ rw (c.value-gain.ensures.value, c.value-left.ensures.value, c.value-right.ensures.value) refl

pub returns-clause-near : goal.returns-clause-near
returns-clause-near c = λ b near.
    subst (AllNear (b + 34359738368)) (sym (returns-clause-sums c))
    (near-both c.args.sums.now c.args.gain c.args.left c.args.right c.args.samples.now c.requires.samples (omega arith) (omega arith) (omega arith)
    (λ k h. c.loop-i.invariant.read k (omega arith)) b near)
