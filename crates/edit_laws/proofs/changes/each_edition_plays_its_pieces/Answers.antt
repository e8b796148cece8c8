-- The law is the lemma.
use Rattle.edit_laws.proofs.CommandLaws as laws
use Rattle.edit_laws.proofs.changes.each_edition_plays_its_pieces.Goals as goal

pub returns : goal.returns
returns c = laws.each_edition_plays_its_pieces
