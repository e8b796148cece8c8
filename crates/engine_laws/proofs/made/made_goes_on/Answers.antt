-- The law as its lemma has it.
use Rattle.engine_laws.proofs.MadeLemmas as lemmas
use Rattle.engine_laws.proofs.made.made_goes_on.Goals as goal

-- src/made.rt
pub returns : goal.returns
returns c = lemmas.made_goes_on
