-- The law as its lemma has it.
use Rattle.engine_laws.proofs.SerialLemmas as lemmas
use Rattle.engine_laws.proofs.serial.ready_entry_is_plain.Goals as goal

-- src/serial.rt
pub returns : goal.returns
returns c = lemmas.ready_entry_is_plain
