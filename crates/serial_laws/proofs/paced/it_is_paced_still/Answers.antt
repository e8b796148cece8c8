use Rattle.serial_laws.proofs.PacedLemmas as laws
use Rattle.serial_laws.proofs.paced.it_is_paced_still.Goals as goal

pub returns : goal.returns
returns c = laws.it_is_paced_still
