use Rattle.worker_pair.specs.Begun.{served_at}
use Rattle.worker_pair.proofs.pair.Pair.turn.Given as goal

abbrev pub ghost-turn : goal.ghost-turn
ghost-turn g a = served_at g.at
