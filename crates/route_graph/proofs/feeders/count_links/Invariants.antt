use Rattle.std.proofs.Common.{◌≡◌, ℕ, ◌+◌, ◌<◌, ◌==◌, length, take, slice_index, count_by}
use Rattle.route_graph.proofs.feeders.count_links.Given as goal

abbrev pub invariant-loop-send : goal.invariant-loop-send
invariant-loop-send l = (t : ℕ) → t < length l.counts →
    slice_index l.counts t ≡ slice_index l.initial.counts t + count_by (λ x. x.to == t) (take l.send-index l.sends)
