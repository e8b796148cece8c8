use Rattle.butler.proofs.MoveLemmas as laws
use Rattle.butler.proofs.laws.a_turn_of_one_is_one_move.Goals as goal

pub returns : goal.returns
returns g c = laws.a_turn_of_one_is_one_move
