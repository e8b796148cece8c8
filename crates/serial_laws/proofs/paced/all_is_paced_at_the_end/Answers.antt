use Rattle.serial_laws.proofs.PacedLemmas as laws
use Rattle.serial_laws.proofs.paced.all_is_paced_at_the_end.Goals as goal

pub returns : goal.returns
returns c = laws.all_is_paced_at_the_end
