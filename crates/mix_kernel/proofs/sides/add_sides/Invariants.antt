use Rattle.std.proofs.Common.{ℕ, ◌*◌, ◌<◌, FitsSigned, w32, pos, get_or}
use Rattle.mix_kernel.specs.Blocks.{sided, summed}
use Rattle.mix_kernel.proofs.Items.{Written}
use Rattle.mix_kernel.proofs.sides.add_sides.Given as goal

-- the items so far, and that each sample read fits its type
abbrev pub invariant-loop-i : goal.invariant-loop-i
invariant-loop-i l = record {
  written : Written (λ k. get_or (summed l.fn.sums (sided l.gain l.left l.right l.samples)) k (pos 0)) l.fn.sums l.sums (2 * l.i);
  read : (k : ℕ) → k < l.i → FitsSigned w32 (get_or l.samples k (pos 0));
}
