-- The law as its lemma has it.
use Rattle.journal_laws.proofs.AckLemmas as lemmas
use Rattle.journal_laws.proofs.lines.plain_replies_are_replies.Goals as goal

-- src/lines.rt
pub returns : goal.returns
returns c = lemmas.plain_replies_are_replies
