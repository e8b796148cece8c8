-- The law is the lemma.
use Rattle.edit_laws.proofs.MadeLemmas as laws
use Rattle.edit_laws.proofs.changes.made_keeps_valid.Goals as goal

pub returns : goal.returns
returns c = laws.made_keeps_valid
