-- The law as its lemma has it.
use Rattle.machine_laws.proofs.StandingLemmas as lemmas
use Rattle.machine_laws.proofs.journals.standing_is_lawful.Goals as goal

-- src/journals.rt
pub returns : goal.returns
returns c = lemmas.standing_is_lawful
