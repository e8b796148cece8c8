use Rattle.serial_laws.proofs.TruthLemmas as laws
use Rattle.serial_laws.proofs.truth.answers_hold.Goals as goal

pub returns : goal.returns
returns c = laws.answers_hold
