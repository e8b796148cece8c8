-- The law as its lemma has it.
use Rattle.machine_laws.proofs.StandingLemmas as lemmas
use Rattle.machine_laws.proofs.sends.numbers_suffice.Goals as goal

-- src/sends.rt
pub returns : goal.returns
returns c = lemmas.numbers_suffice
