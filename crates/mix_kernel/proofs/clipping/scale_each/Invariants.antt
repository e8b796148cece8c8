use Rattle.std.proofs.Common.{pos, get_or}
use Rattle.sound_model.specs.Numbers.{scale, clip}
use Rattle.mix_kernel.proofs.Items.{Written}
use Rattle.mix_kernel.proofs.clipping.scale_each.Given as goal

-- the items so far
abbrev pub invariant-loop-i : goal.invariant-loop-i
invariant-loop-i l = Written (λ k. clip (scale (get_or l.samples k (pos 0)) (get_or l.gains k 0))) l.fn.out l.out l.i
