use Rattle.std.proofs.Common.{pos, get_or}
use Rattle.sound_model.specs.Numbers.{clip}
use Rattle.mix_kernel.proofs.Items.{Written}
use Rattle.mix_kernel.proofs.clipping.clip_all.Given as goal

-- the items so far
abbrev pub invariant-loop-i : goal.invariant-loop-i
invariant-loop-i l = Written (λ k. clip (get_or l.sums k (pos 0))) l.fn.out l.out l.i
