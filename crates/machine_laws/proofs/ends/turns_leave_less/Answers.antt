-- The law as its lemma has it.
use Rattle.machine_laws.proofs.MoveLemmas as lemmas
use Rattle.machine_laws.proofs.ends.turns_leave_less.Goals as goal

-- src/ends.rt
pub returns : goal.returns
returns c = lemmas.turns_leave_less
