use Rattle.butler.specs.ButlerState.{start_of}
use Rattle.butler.proofs.butler.Butler.turn.Given as goal

abbrev pub ghost-flush : goal.ghost-flush
ghost-flush g c = start_of g.at
