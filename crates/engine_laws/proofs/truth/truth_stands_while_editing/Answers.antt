-- The law as its lemma has it.
use Rattle.engine_laws.proofs.TruthfulLemmas as lemmas
use Rattle.engine_laws.proofs.truth.truth_stands_while_editing.Goals as goal

-- src/truth.rt
pub returns : goal.returns
returns c = lemmas.truth_stands_while_editing
