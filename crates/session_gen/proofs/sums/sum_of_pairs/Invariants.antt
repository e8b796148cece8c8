use Rattle.std.proofs.Common.{◌≡◌, ◌*◌, pos, ◌+ℤ◌, ◌≤ℤ◌, drop}
use Rattle.std.specs.Prelude.{neg_ℤ}
use Rattle.session_gen.specs.Sums.{total, pair_numbers}
use Rattle.session_gen.proofs.sums.sum_of_pairs.Given as goal

-- what is added up so far and what is left make the whole; each sample is of 16 bits
abbrev pub invariant-loop-pair : goal.invariant-loop-pair
invariant-loop-pair l = record {
  rest : l.sum +ℤ total (pair_numbers (drop l.pair-index l.pairs)) ≡ total (pair_numbers l.pairs);
  least : neg_ℤ (pos (32768 * l.pair-index)) ≤ℤ l.sum;
  most : l.sum ≤ℤ pos (32768 * l.pair-index);
}
