use Rattle.std.proofs.Common.{◌≡◌, ℕ, ◌≤◌, ◌<◌, [], length, slice_index_or}
use Rattle.route_mix.specs.Blocks.{silence}
use Rattle.route_mix.proofs.mixing.clear.Given as goal

-- those so far are cleared, and the others are as they were
abbrev pub invariant-loop-sum : goal.invariant-loop-sum
invariant-loop-sum l = record {
  done : (r : ℕ) → r < l.sum-index → slice_index_or l.sums r [] ≡ silence (length (slice_index_or l.fn.sums r []));
  others : (r : ℕ) → l.sum-index ≤ r → slice_index_or l.sums r [] ≡ slice_index_or l.fn.sums r [];
}
