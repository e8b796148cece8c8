-- The law is the lemma.
use Rattle.engine_laws.proofs.OrderLemmas
use Rattle.engine_laws.proofs.order.newest_never_falls_along.Goals as goal

pub returns : goal.returns
returns c = OrderLemmas.newest_rises
