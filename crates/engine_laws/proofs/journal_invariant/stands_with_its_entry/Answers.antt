-- The law as its lemma has it.
use Rattle.engine_laws.proofs.EntryLemmas as lemmas
use Rattle.engine_laws.proofs.journal_invariant.stands_with_its_entry.Goals as goal

-- src/journal_invariant.rt
pub returns : goal.returns
returns c = lemmas.stands_with_its_entry
