-- The law as its lemma has it.
use Rattle.journal_laws.proofs.LineLemmas as lemmas
use Rattle.journal_laws.proofs.lines.accepted_by_lines.Goals as goal

-- src/lines.rt
pub returns : goal.returns
returns c = lemmas.accepted_by_lines
