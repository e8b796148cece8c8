-- The law is the lemma.
use Rattle.engine_laws.proofs.Laws
use Rattle.engine_laws.proofs.editions.playlist_editions_name_edits.Goals as goal

pub returns : goal.returns
returns c = Laws.playlist_editions_name_edits
