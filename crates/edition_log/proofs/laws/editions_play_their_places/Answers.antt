-- The law is the lemma.
use Rattle.edition_log.proofs.PlayLaws
use Rattle.edition_log.proofs.laws.editions_play_their_places.Goals as goal

pub returns : goal.returns
returns c = PlayLaws.editions_play_their_places
