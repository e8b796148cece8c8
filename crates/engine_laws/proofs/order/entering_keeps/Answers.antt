-- The law is the lemma.
use Rattle.engine_laws.proofs.SendLemmas
use Rattle.engine_laws.proofs.order.entering_keeps.Goals as goal

pub returns : goal.returns
returns c = SendLemmas.enter_keeps
