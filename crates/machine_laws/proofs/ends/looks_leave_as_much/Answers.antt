-- The law as its lemma has it.
use Rattle.machine_laws.proofs.MoveLemmas as lemmas
use Rattle.machine_laws.proofs.ends.looks_leave_as_much.Goals as goal

-- src/ends.rt
pub returns : goal.returns
returns c = lemmas.looks_leave_as_much
