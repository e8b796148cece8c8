use Rattle.serial_laws.proofs.GivenLemmas as laws
use Rattle.serial_laws.proofs.given.the_workers_go_on.Goals as goal

pub returns : goal.returns
returns c = laws.the_workers_go_on
