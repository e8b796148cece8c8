use Rattle.edit_script.proofs.WrongLaws as laws
use Rattle.edit_script.proofs.laws.first_wrong_is_named.Goals as goal

pub returns : goal.returns
returns c = laws.first_wrong_is_named
