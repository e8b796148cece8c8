-- The law as its lemma has it.
use Rattle.engine_laws.proofs.SerialLemmas as lemmas
use Rattle.engine_laws.proofs.serial.few_are_sent.Goals as goal

-- src/serial.rt
pub returns : goal.returns
returns c = lemmas.few_are_sent
