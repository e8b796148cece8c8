use Rattle.serial_laws.proofs.RestLemmas as laws
use Rattle.serial_laws.proofs.rest.the_run_is_the_machines.Goals as goal

pub returns : goal.returns
returns c = laws.the_run_is_the_machines
