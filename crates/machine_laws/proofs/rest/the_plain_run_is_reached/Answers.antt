-- The law as its lemma has it.
use Rattle.machine_laws.proofs.RestLemmas as lemmas
use Rattle.machine_laws.proofs.rest.the_plain_run_is_reached.Goals as goal

-- src/rest.rt
pub returns : goal.returns
returns c = lemmas.the_plain_run_is_reached
