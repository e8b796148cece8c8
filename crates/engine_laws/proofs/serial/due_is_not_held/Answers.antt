-- The law as its lemma has it.
use Rattle.engine_laws.proofs.HeldLemmas as lemmas
use Rattle.engine_laws.proofs.serial.due_is_not_held.Goals as goal

-- src/serial.rt
pub returns : goal.returns
returns c = lemmas.due_is_not_held
