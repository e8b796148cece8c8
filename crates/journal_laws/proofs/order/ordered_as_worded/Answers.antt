-- The law as its lemma has it.
use Rattle.journal_laws.proofs.OrderWordLemmas as lemmas
use Rattle.journal_laws.proofs.order.ordered_as_worded.Goals as goal

-- src/order.rt
pub returns : goal.returns
returns c = lemmas.ordered_as_worded
