use Rattle.worker_pair.specs.Begun.{playing_at}
use Rattle.worker_pair.proofs.pair.Pair.cycle.Given as goal

abbrev pub ghost-cycle : goal.ghost-cycle
ghost-cycle g a = playing_at g.at
