use Rattle.serial_laws.proofs.RestLemmas as laws
use Rattle.serial_laws.proofs.rest.no_letter_is_needed.Goals as goal

pub returns : goal.returns
returns c = laws.no_letter_is_needed
