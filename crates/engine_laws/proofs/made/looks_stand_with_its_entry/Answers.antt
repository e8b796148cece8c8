-- The law as its lemma has it.
use Rattle.engine_laws.proofs.LooksLemmas as lemmas
use Rattle.engine_laws.proofs.made.looks_stand_with_its_entry.Goals as goal

-- src/made.rt
pub returns : goal.returns
returns c = lemmas.looks_stand_with_its_entry
