-- The law as its lemma has it.
use Rattle.machine_laws.proofs.WalkLemmas as lemmas
use Rattle.machine_laws.proofs.serial.serial_is_plain.Goals as goal

-- src/serial.rt
pub returns : goal.returns
returns c = lemmas.serial_is_plain
