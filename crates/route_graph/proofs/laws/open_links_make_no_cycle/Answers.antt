use Rattle.route_graph.proofs.ClosingLaws as laws
use Rattle.route_graph.proofs.laws.open_links_make_no_cycle.Goals as goal

pub returns : goal.returns
returns c = laws.open_links_make_no_cycle
