use Rattle.route_graph.proofs.ClosingLaws as laws
use Rattle.route_graph.proofs.laws.closing_is_a_cycle.Goals as goal

pub returns : goal.returns
returns c = laws.closing_is_a_cycle
