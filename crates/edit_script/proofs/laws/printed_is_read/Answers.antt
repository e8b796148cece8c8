use Rattle.edit_script.proofs.PrintLaws as laws
use Rattle.edit_script.proofs.laws.printed_is_read.Goals as goal

pub returns : goal.returns
returns c = laws.printed_is_read
