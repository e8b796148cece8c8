use Rattle.edit_script.proofs.ReadLaws as laws
use Rattle.edit_script.proofs.laws.waits_are_few.Goals as goal

pub returns : goal.returns
returns c = laws.waits_are_few
