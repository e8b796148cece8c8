use Rattle.route_graph.proofs.CycleLaws as laws
use Rattle.route_graph.proofs.laws.first_on_cycle_is_found.Goals as goal

pub returns : goal.returns
returns c = laws.first_on_cycle_is_found
