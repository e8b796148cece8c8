use Rattle.edit_script.proofs.ReadLaws as laws
use Rattle.edit_script.proofs.laws.each_verb_makes.Goals as goal

pub returns : goal.returns
returns c = laws.each_verb_makes
