use Rattle.edit_script.proofs.ReadLaws as laws
use Rattle.edit_script.proofs.laws.read_can_be_said.Goals as goal

pub returns : goal.returns
returns c = laws.read_can_be_said
