use Rattle.serial_laws.proofs.AnsweredLemmas as laws
use Rattle.serial_laws.proofs.answered.nothing_is_answered_at_first.Goals as goal

pub returns : goal.returns
returns c = laws.nothing_is_answered_at_first
