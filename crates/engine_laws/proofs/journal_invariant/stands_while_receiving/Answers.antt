-- The law as its lemma has it.
use Rattle.engine_laws.proofs.JournalInvariantLemmas as lemmas
use Rattle.engine_laws.proofs.journal_invariant.stands_while_receiving.Goals as goal

-- src/journal_invariant.rt
pub returns : goal.returns
returns c = lemmas.stands_while_receiving
