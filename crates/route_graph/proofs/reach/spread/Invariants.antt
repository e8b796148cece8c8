use Rattle.std.proofs.Common.{◌≡◌, ℕ, ◌||◌, ◌==◌, take}
use Rattle.std.specs.List.{list_any}
use Rattle.route_graph.specs.Places.{stands, AreOnce, StartsWith}
use Rattle.route_graph.proofs.reach.spread.Given as goal

abbrev pub invariant-loop-send : goal.invariant-loop-send
invariant-loop-send l = record {
  once : AreOnce l.fn.found → AreOnce l.found;
  starts : StartsWith l.found l.fn.found;
  stand : (t : ℕ) → stands l.found t ≡ (stands l.initial.found t || list_any (λ x. x.to == t) (take l.send-index l.sends));
}
