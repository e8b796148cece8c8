use Rattle.std.proofs.Common.{◌≡◌, true, length, drop}
use Rattle.piece_item.specs.Silence.{zeros}
use Rattle.piece_item.proofs.sample_block.chunk_is_zero.Given as goal

-- where all so far is zero and what is left is too, all is; and where all is, all so far is
abbrev pub invariant-loop-sample : goal.invariant-loop-sample
invariant-loop-sample l = (l.silent ≡ true → drop l.sample-index l.samples ≡ zeros (length (drop l.sample-index l.samples)) → l.samples ≡ zeros (length l.samples))
    × (l.samples ≡ zeros (length l.samples) → l.silent ≡ true)
