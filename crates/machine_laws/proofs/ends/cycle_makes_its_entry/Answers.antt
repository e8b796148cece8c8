-- The law as its lemma has it.
use Rattle.machine_laws.proofs.EntryLemmas as lemmas
use Rattle.machine_laws.proofs.ends.cycle_makes_its_entry.Goals as goal

-- src/ends.rt
pub returns : goal.returns
returns c = lemmas.cycle_makes_its_entry
