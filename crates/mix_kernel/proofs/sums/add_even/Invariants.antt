use Rattle.std.proofs.Common.{ℕ, ◌<◌, FitsSigned, w32, pos, ◌+ℤ◌, get_or}
use Rattle.sound_model.specs.Numbers.{scale}
use Rattle.mix_kernel.proofs.Items.{Written}
use Rattle.mix_kernel.proofs.sums.add_even.Given as goal

-- the items so far, and that each sample read fits its type
abbrev pub invariant-loop-i : goal.invariant-loop-i
invariant-loop-i l = record {
  written : Written (λ k. get_or l.fn.sums k (pos 0) +ℤ scale (get_or l.samples k (pos 0)) l.gain) l.fn.sums l.sums l.i;
  read : (k : ℕ) → k < l.i → FitsSigned w32 (get_or l.samples k (pos 0));
}
