use Rattle.worker_pair.specs.Steps.{left_to_do}
use Rattle.run_end.specs.LastTurns.{LeavesAllElse, TakesLastTurns, at_last}
use Rattle.run_end.proofs.DrainLemmas.{LeadsFrom}
use Rattle.run_end.proofs.draining.drain.Given as goal

abbrev pub invariant-draining : goal.invariant-draining
invariant-draining g l = record {
  last : TakesLastTurns g.M.Media.outside g.on l.ending l.failed;
  alone : LeavesAllElse l.fn.ending l.fn.failed l.ending l.failed;
  leads : LeadsFrom g.M.Media.outside g.on.begun l.fn.ending l.fn.failed l.ending l.failed;
}

abbrev pub decreases-draining : goal.decreases-draining
decreases-draining g l = left_to_do l.ending

abbrev pub ghost-turn : goal.ghost-turn
ghost-turn g a = at_last g.on.begun a.self
