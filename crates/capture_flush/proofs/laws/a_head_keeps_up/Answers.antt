-- The law as its lemma has it.
use Rattle.capture_flush.proofs.HeaderLemmas as lemmas
use Rattle.capture_flush.proofs.laws.a_head_keeps_up.Goals as goal

-- src/laws.rt
pub returns : goal.returns
returns c = lemmas.a_head_keeps_up
