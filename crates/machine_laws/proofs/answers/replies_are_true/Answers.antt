-- The law as its lemma has it.
use Rattle.machine_laws.proofs.TrueReplies as lemmas
use Rattle.machine_laws.proofs.answers.replies_are_true.Goals as goal

-- src/answers.rt
pub returns : goal.returns
returns c = lemmas.replies_are_true
