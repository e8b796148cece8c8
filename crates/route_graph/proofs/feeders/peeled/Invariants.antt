use Rattle.route_graph.proofs.PeelLaws.{IsFed}
use Rattle.route_graph.proofs.feeders.peeled.Given as goal

abbrev pub invariant-loop-turn : goal.invariant-loop-turn
invariant-loop-turn l = IsFed l.s l.turn l.counts l.places
