-- The law as its lemma has it.
use Rattle.capture_flush.proofs.LawfulLemmas as lemmas
use Rattle.capture_flush.proofs.laws.a_lawful_journal_is_counted.Goals as goal

-- src/laws.rt
pub returns : goal.returns
returns c = lemmas.a_lawful_journal_is_counted
