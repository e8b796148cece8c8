use Rattle.std.proofs.Common.{pos, get_or}
use Rattle.ses_units.specs.Bits.{bits_of}
use Rattle.sound_model.specs.Numbers.{file_sample}
use Rattle.mix_kernel.proofs.Items.{Written}
use Rattle.mix_kernel.proofs.clipping.clip_file.Given as goal

-- the items so far
abbrev pub invariant-loop-i : goal.invariant-loop-i
invariant-loop-i l = Written (λ k. file_sample (bits_of l.bits) (get_or l.samples k (pos 0))) l.fn.out l.out l.i
