-- The law as its lemma has it.
use Rattle.machine_laws.proofs.TurnLemmas as lemmas
use Rattle.machine_laws.proofs.acknowledgements.turns_go_by_the_newest.Goals as goal

-- src/acknowledgements.rt
pub returns : goal.returns
returns c = lemmas.turns_go_by_the_newest
