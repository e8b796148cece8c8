use Rattle.std.proofs.Common.{ℕ, ◌<◌}
use Rattle.sound_model.specs.Routes.{Reaches}
use Rattle.session_model.specs.Views.{routes_of}
use Rattle.route_graph.proofs.ordering.first_cycle.Given as goal

abbrev pub invariant-loop-r : goal.invariant-loop-r
invariant-loop-r l = (q : ℕ) → q < l.r → ¬ (Reaches (routes_of l.s) q q)
