use Rattle.std.proofs.Common.{◌≡◌, ℕ, ◌*◌, ◌<◌, ◌≤◌, [], length, take, slice_index}
use Rattle.session_model.specs.Views.{routes_of}
use Rattle.route_graph.specs.Walks.{waiting}
use Rattle.route_graph.proofs.feeders.count_all.Given as goal

abbrev pub invariant-loop-route : goal.invariant-loop-route
invariant-loop-route l = record {
  counted : (t : ℕ) → t < length l.counts → slice_index l.counts t ≡ waiting 0 (take l.route-index (routes_of l.s)) [] t;
  small : (t : ℕ) → t < length l.counts → slice_index l.counts t ≤ 9 * l.route-index;
}
