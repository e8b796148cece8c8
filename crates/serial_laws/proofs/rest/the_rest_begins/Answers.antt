use Rattle.serial_laws.proofs.RestLemmas as laws
use Rattle.serial_laws.proofs.rest.the_rest_begins.Goals as goal

pub returns : goal.returns
returns c = laws.the_rest_begins
