use Rattle.serial_laws.proofs.GivenLemmas as laws
use Rattle.serial_laws.proofs.given.control_goes_on.Goals as goal

pub returns : goal.returns
returns c = laws.control_goes_on
