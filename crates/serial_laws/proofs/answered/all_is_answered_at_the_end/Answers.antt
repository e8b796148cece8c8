use Rattle.serial_laws.proofs.AnsweredLemmas as laws
use Rattle.serial_laws.proofs.answered.all_is_answered_at_the_end.Goals as goal

pub returns : goal.returns
returns c = laws.all_is_answered_at_the_end
