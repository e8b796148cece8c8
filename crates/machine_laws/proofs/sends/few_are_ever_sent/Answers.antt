-- The law as its lemma has it.
use Rattle.machine_laws.proofs.StandingLemmas as lemmas
use Rattle.machine_laws.proofs.sends.few_are_ever_sent.Goals as goal

-- src/sends.rt
pub returns : goal.returns
returns c = lemmas.few_are_ever_sent
