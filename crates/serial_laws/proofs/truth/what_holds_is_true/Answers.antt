use Rattle.serial_laws.proofs.TruthLemmas as laws
use Rattle.serial_laws.proofs.truth.what_holds_is_true.Goals as goal

pub returns : goal.returns
returns c = laws.what_holds_is_true
