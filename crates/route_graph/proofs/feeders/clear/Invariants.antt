use Rattle.std.proofs.Common.{◌≡◌, ℕ, ◌<◌, slice_index}
use Rattle.route_graph.proofs.feeders.clear.Given as goal

abbrev pub invariant-loop-count : goal.invariant-loop-count
invariant-loop-count l = (t : ℕ) → t < l.count-index → slice_index l.counts t ≡ 0
