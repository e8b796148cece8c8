-- The law is the lemma.
use Rattle.engine_laws.proofs.Laws
use Rattle.engine_laws.proofs.editions.none_falls.Goals as goal

pub returns : goal.returns
returns c = Laws.none_falls
