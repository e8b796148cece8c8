-- The law is the lemma.
use Rattle.edit_laws.proofs.CommandLaws as laws
use Rattle.edit_laws.proofs.changes.fixed_stays.Goals as goal

pub returns : goal.returns
returns c = laws.fixed_stays
