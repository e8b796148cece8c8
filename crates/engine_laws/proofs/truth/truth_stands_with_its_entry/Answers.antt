-- The law as its lemma has it.
use Rattle.engine_laws.proofs.TruthLemmas as lemmas
use Rattle.engine_laws.proofs.truth.truth_stands_with_its_entry.Goals as goal

-- src/truth.rt
pub returns : goal.returns
returns c = lemmas.truth_stands_with_its_entry
