use Rattle.butler.proofs.CoreMoveLemmas as laws
use Rattle.butler.proofs.laws.the_move_is_the_core_machines.Goals as goal

pub returns : goal.returns
returns g c = laws.the_move_is_the_core_machines
