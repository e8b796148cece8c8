-- The law is the lemma.
use Rattle.edit_laws.proofs.CommandLaws as laws
use Rattle.edit_laws.proofs.changes.edits_keep_validity.Goals as goal

pub returns : goal.returns
returns c = laws.edits_keep_validity
