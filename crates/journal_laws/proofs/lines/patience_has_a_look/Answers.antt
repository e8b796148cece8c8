-- The law as its lemma has it.
use Rattle.journal_laws.proofs.LineLemmas as lemmas
use Rattle.journal_laws.proofs.lines.patience_has_a_look.Goals as goal

-- src/lines.rt
pub returns : goal.returns
returns c = lemmas.patience_has_a_look
