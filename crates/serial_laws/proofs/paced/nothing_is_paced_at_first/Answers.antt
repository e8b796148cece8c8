use Rattle.serial_laws.proofs.PacedLemmas as laws
use Rattle.serial_laws.proofs.paced.nothing_is_paced_at_first.Goals as goal

pub returns : goal.returns
returns c = laws.nothing_is_paced_at_first
