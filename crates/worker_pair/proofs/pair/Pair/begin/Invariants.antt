use Rattle.worker_pair.specs.Begun.{playing_at}
use Rattle.worker_pair.proofs.pair.Pair.begin.Given as goal

abbrev pub ghost-begin : goal.ghost-begin
ghost-begin g a = playing_at g.at
