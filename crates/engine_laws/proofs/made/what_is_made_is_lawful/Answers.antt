-- The law as its lemma has it.
use Rattle.engine_laws.proofs.MadeLemmas as lemmas
use Rattle.engine_laws.proofs.made.what_is_made_is_lawful.Goals as goal

-- src/made.rt
pub returns : goal.returns
returns c = lemmas.what_is_made_is_lawful
