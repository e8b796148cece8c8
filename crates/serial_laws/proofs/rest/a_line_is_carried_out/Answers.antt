use Rattle.serial_laws.proofs.RestLemmas as laws
use Rattle.serial_laws.proofs.rest.a_line_is_carried_out.Goals as goal

pub returns : goal.returns
returns c = laws.a_line_is_carried_out
