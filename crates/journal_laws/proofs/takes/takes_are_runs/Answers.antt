-- The law as its lemma has it.
use Rattle.journal_laws.proofs.TakeLemmas as lemmas
use Rattle.journal_laws.proofs.takes.takes_are_runs.Goals as goal

-- src/takes.rt
pub returns : goal.returns
returns c = lemmas.takes_are_runs
