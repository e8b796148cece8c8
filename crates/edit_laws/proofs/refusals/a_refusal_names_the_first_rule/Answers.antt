-- The law is the lemma.
use Rattle.edit_laws.proofs.RowLemmas
use Rattle.edit_laws.proofs.refusals.a_refusal_names_the_first_rule.Goals as goal

pub returns : goal.returns
returns c = RowLemmas.a_refusal_names_the_first_rule
