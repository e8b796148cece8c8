use Rattle.serial_laws.proofs.AnsweredLemmas as laws
use Rattle.serial_laws.proofs.answered.it_goes_by_the_edits.Goals as goal

pub returns : goal.returns
returns c = laws.it_goes_by_the_edits
