use Rattle.std.specs.List.{IsDistinct}
use Rattle.route_graph.proofs.PlaceLaws as laws
use Rattle.route_graph.proofs.places.Places.new.Goals as goal

pub invariant_of-result : goal.invariant_of-result
invariant_of-result c = laws.kept_none

pub returns-clause-once : goal.returns-clause-once
unfolding IsDistinct
returns-clause-once c = tt
