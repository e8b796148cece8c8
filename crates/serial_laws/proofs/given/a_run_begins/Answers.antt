use Rattle.serial_laws.proofs.GivenLemmas as laws
use Rattle.serial_laws.proofs.given.a_run_begins.Goals as goal

pub returns : goal.returns
returns c = laws.a_run_begins
