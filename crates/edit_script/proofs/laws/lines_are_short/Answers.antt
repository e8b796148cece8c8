use Rattle.edit_script.proofs.ShortLaws as laws
use Rattle.edit_script.proofs.laws.lines_are_short.Goals as goal

pub returns : goal.returns
returns c = laws.lines_are_short
