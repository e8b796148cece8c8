-- The law as its lemma has it.
use Rattle.machine_laws.proofs.EventLemmas as lemmas
use Rattle.machine_laws.proofs.machine.stands_at_first.Goals as goal

-- src/machine.rt
pub returns : goal.returns
returns c = lemmas.stands_at_first
