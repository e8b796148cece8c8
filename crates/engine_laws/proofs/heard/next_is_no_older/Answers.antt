-- The law is the lemma.
use Rattle.engine_laws.proofs.Laws
use Rattle.engine_laws.proofs.heard.next_is_no_older.Goals as goal

pub returns : goal.returns
returns c = Laws.next_is_no_older
