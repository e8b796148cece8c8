-- The law is the lemma.
use Rattle.engine_laws.proofs.SendLemmas
use Rattle.engine_laws.proofs.order.sending_keeps.Goals as goal

pub returns : goal.returns
returns c = SendLemmas.send_keeps
