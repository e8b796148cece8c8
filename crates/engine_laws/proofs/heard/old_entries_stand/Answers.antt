-- The law is the lemma.
use Rattle.engine_laws.proofs.Laws
use Rattle.engine_laws.proofs.heard.old_entries_stand.Goals as goal

pub returns : goal.returns
returns c = Laws.old_entries_stand
