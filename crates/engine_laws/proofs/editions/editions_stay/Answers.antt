-- The law is the lemma.
use Rattle.engine_laws.proofs.Laws
use Rattle.engine_laws.proofs.editions.editions_stay.Goals as goal

pub returns : goal.returns
returns c = Laws.editions_stay
