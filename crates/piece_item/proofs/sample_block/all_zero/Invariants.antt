use Rattle.std.proofs.Common.{◌≡◌, ◌*◌, take}
use Rattle.piece_item.specs.Silence.{zeros}
use Rattle.piece_item.proofs.sample_block.all_zero.Given as goal

-- the chunks so far are silence
abbrev pub invariant-loop-k : goal.invariant-loop-k
invariant-loop-k l = take (64 * l.k) l.samples ≡ zeros (64 * l.k)
