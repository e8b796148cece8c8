use Rattle.std.proofs.Common.{ℕ, ◌<◌, FitsSigned, w32, ◌-◌, pos, ◌+ℤ◌, get_or}
use Rattle.sound_model.specs.Numbers.{unity, scale}
use Rattle.mix_kernel.proofs.Items.{Written}
use Rattle.mix_kernel.proofs.layers.cover.Given as goal

-- the items so far, and that each sample read fits its type
abbrev pub invariant-loop-i : goal.invariant-loop-i
invariant-loop-i l = record {
  written : Written (λ k. scale (get_or l.samples k (pos 0)) (get_or l.fades k 0) +ℤ scale (get_or l.fn.sums k (pos 0)) (unity - get_or l.fades k 0)) l.fn.sums l.sums l.i;
  read : (k : ℕ) → k < l.i → FitsSigned w32 (get_or l.samples k (pos 0));
}
