-- The law as its lemma has it.
use Rattle.journal_laws.proofs.OneThreadLemmas as lemmas
use Rattle.journal_laws.proofs.one_thread.each_entry_hears_its_edition.Goals as goal

-- src/one_thread.rt
pub returns : goal.returns
returns c = lemmas.each_entry_hears_its_edition
