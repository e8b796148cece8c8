-- The law as its lemma has it.
use Rattle.journal_laws.proofs.NextCycleLemmas as lemmas
use Rattle.journal_laws.proofs.one_thread.the_next_cycle_has_all_edits.Goals as goal

-- src/one_thread.rt
pub returns : goal.returns
returns c = lemmas.the_next_cycle_has_all_edits
