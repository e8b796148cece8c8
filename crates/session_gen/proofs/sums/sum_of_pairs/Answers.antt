use Rattle.std.proofs.Common.{◌≡◌, ◌+◌, ◌*◌, pos, ◌+ℤ◌, ◌≤ℤ◌, ap, ◌∙◌, arith, rules, ℤ, FitsSigned, w16, to_z, of_z}
use Rattle.std.specs.Prelude.{neg_ℤ}
use Rattle.std.specs.Int.{w128}
use Rattle.std.proofs.lemmas.Int.{to_z-of_z}
use Rattle.session_gen.proofs.SumLemmas.{fits_by, least_on, most_on, next_pair}
use Rattle.session_gen.proofs.sums.sum_of_pairs.Goals as goal

pub loop-pair-preserved : goal.loop-pair-preserved
loop-pair-preserved c =
    let low : FitsSigned w16 c.sample.result = search rules in
    let v : ℤ = c.sample.result in
    let wide : c.from-sum.result ≡ v = c.from-sum.ensures ∙ to_z-of_z w16 v low in
    let old : ℤ = to_z w128 c.loop-pair.sum-bits in
    let least : neg_ℤ (pos (32768 * c.loop-pair.pair-index)) ≤ℤ old = c.loop-pair.invariant.least in
    let most : old ≤ℤ pos (32768 * c.loop-pair.pair-index) = c.loop-pair.invariant.most in
    let least_now : neg_ℤ (pos (32768 * (c.loop-pair.pair-index + 1))) ≤ℤ (old +ℤ v) = least_on old v c.loop-pair.pair-index least c.sample.type_inv in
    let most_now : (old +ℤ v) ≤ℤ pos (32768 * (c.loop-pair.pair-index + 1)) = most_on old v c.loop-pair.pair-index most c.sample.type_inv in
    let fits_new : FitsSigned w128 (old +ℤ v) = fits_by (old +ℤ v) (c.loop-pair.pair-index + 1) least_now most_now (omega (arith, c.well_formed, c.told-pairs, c.loop-pair.auto, c.loop-pair-test.true)) in
    let fits : FitsSigned w128 c.from-sum.result = search rules in
    let is : to_z w128 (of_z w128 (old +ℤ to_z w128 (of_z w128 c.from-sum.result))) ≡ old +ℤ v =
    ap (λ x. to_z w128 (of_z w128 (old +ℤ x))) (to_z-of_z w128 c.from-sum.result fits ∙ wide) ∙ to_z-of_z w128 (old +ℤ v) fits_new in
    record {
      rest = rw is (next_pair c.args.pairs.now c.loop-pair.pair-index old v c.loop-pair-test.true c.sample.ensures c.loop-pair.invariant.rest);
      least = rw is least_now;
      most = rw is most_now;
    }
