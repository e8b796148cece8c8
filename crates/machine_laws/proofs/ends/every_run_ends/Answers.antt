-- The law as its lemma has it.
use Rattle.machine_laws.proofs.RunEndsLemmas as lemmas
use Rattle.machine_laws.proofs.ends.every_run_ends.Goals as goal

-- src/ends.rt
pub returns : goal.returns
returns c = lemmas.every_run_ends
