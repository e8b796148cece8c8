use Rattle.serial_laws.proofs.PacedLemmas as laws
use Rattle.serial_laws.proofs.paced.each_entry_is_paced.Goals as goal

pub returns : goal.returns
returns c = laws.each_entry_is_paced
