-- The law is the lemma.
use Rattle.edit_laws.proofs.RowLemmas
use Rattle.edit_laws.proofs.refusals.an_edit_is_refused_by_the_first_rule.Goals as goal

pub returns : goal.returns
returns c = RowLemmas.an_edit_is_refused_by_the_first_rule
