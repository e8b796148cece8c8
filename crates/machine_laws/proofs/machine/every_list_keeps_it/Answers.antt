-- The law as its lemma has it.
use Rattle.machine_laws.proofs.EventLemmas as lemmas
use Rattle.machine_laws.proofs.machine.every_list_keeps_it.Goals as goal

-- src/machine.rt
pub returns : goal.returns
returns c = lemmas.every_list_keeps_it
