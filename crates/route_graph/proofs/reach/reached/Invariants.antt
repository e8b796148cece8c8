use Rattle.route_graph.proofs.ReachLaws.{IsWalked}
use Rattle.route_graph.proofs.reach.reached.Given as goal

abbrev pub invariant-loop-turn : goal.invariant-loop-turn
invariant-loop-turn l = IsWalked l.s l.from l.turn l.found
