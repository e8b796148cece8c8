-- The law is the lemma.
use Rattle.edit_laws.proofs.ResolveLemmas as laws
use Rattle.edit_laws.proofs.changes.resolved_may_be_made.Goals as goal

pub returns : goal.returns
returns c = laws.resolved_may_be_made
