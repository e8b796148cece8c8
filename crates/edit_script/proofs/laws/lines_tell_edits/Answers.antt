use Rattle.edit_script.proofs.PrintLaws as laws
use Rattle.edit_script.proofs.laws.lines_tell_edits.Goals as goal

pub returns : goal.returns
returns c = laws.lines_tell_edits
