use Rattle.std.proofs.Common.{◌≡◌, ℕ, ◌+◌, ◌<◌, ◌==◌, length, take, slice_index, count_by}
use Rattle.route_graph.specs.Places.{StartsWith}
use Rattle.route_graph.specs.Walks.{IsSettled}
use Rattle.route_graph.proofs.feeders.release.Given as goal

abbrev pub invariant-loop-send : goal.invariant-loop-send
invariant-loop-send l = record {
  counts : (t : ℕ) → t < length l.counts →
      slice_index l.counts t + count_by (λ x. x.to == t) (take l.send-index l.sends) ≡ slice_index l.initial.counts t;
  settled : IsSettled l.counts l.places;
  starts : StartsWith l.places l.fn.places;
}
