-- The law as its lemma has it.
use Rattle.journal_laws.proofs.NextCycleLemmas as lemmas
use Rattle.journal_laws.proofs.one_thread.an_edit_is_in_the_next_cycle.Goals as goal

-- src/one_thread.rt
pub returns : goal.returns
returns c = lemmas.an_edit_is_in_the_next_cycle
