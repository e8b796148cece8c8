-- The law as its lemma has it.
use Rattle.machine_laws.proofs.AnswerLemmas as lemmas
use Rattle.machine_laws.proofs.answers.edits_are_those_of_lines.Goals as goal

-- src/answers.rt
pub returns : goal.returns
returns c = lemmas.edits_are_those_of_lines
