use Rattle.serial_laws.proofs.AnsweredLemmas as laws
use Rattle.serial_laws.proofs.answered.each_line_is_answered.Goals as goal

pub returns : goal.returns
returns c = laws.each_line_is_answered
