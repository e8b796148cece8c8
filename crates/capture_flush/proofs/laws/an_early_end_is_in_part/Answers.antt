-- The law as its lemma has it.
use Rattle.capture_flush.proofs.EarlyLemmas as lemmas
use Rattle.capture_flush.proofs.laws.an_early_end_is_in_part.Goals as goal

-- src/laws.rt
pub returns : goal.returns
returns c = lemmas.an_early_end_is_in_part
