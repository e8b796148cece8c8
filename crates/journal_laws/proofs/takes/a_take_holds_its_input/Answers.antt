-- The law as its lemma has it.
use Rattle.journal_laws.proofs.TakeSoundLemmas as lemmas
use Rattle.journal_laws.proofs.takes.a_take_holds_its_input.Goals as goal

-- src/takes.rt
pub returns : goal.returns
returns c = lemmas.a_take_holds_its_input
