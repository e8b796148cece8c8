-- The law as its lemma has it.
use Rattle.journal_laws.proofs.AcknowledgedLemmas as lemmas
use Rattle.journal_laws.proofs.heard.after_an_acknowledgement.Goals as goal

-- src/heard.rt
pub returns : goal.returns
returns c = lemmas.after_an_acknowledgement
