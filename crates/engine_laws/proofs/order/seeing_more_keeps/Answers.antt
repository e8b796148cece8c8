-- The law is the lemma.
use Rattle.engine_laws.proofs.GrowLemmas
use Rattle.engine_laws.proofs.order.seeing_more_keeps.Goals as goal

pub returns : goal.returns
returns c = GrowLemmas.publish_keeps
