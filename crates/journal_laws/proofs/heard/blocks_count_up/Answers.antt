-- The law as its lemma has it.
use Rattle.journal_laws.proofs.BlockLemmas as lemmas
use Rattle.journal_laws.proofs.heard.blocks_count_up.Goals as goal

-- src/heard.rt
pub returns : goal.returns
returns c = lemmas.blocks_count_up
