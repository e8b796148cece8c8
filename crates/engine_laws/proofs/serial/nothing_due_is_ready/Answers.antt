-- The law as its lemma has it.
use Rattle.engine_laws.proofs.SerialLemmas as lemmas
use Rattle.engine_laws.proofs.serial.nothing_due_is_ready.Goals as goal

-- src/serial.rt
pub returns : goal.returns
returns c = lemmas.nothing_due_is_ready
