-- The law as its lemma has it.
use Rattle.engine_laws.proofs.HeldLemmas as lemmas
use Rattle.engine_laws.proofs.serial.none_is_held_later.Goals as goal

-- src/serial.rt
pub returns : goal.returns
returns c = lemmas.none_is_held_later
