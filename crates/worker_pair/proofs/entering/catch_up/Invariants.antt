use Rattle.worker_pair.proofs.EnterLemmas.{CatchesUp}
use Rattle.worker_pair.proofs.entering.catch_up.Given as goal

abbrev pub invariant-loop-at : goal.invariant-loop-at
invariant-loop-at g l = CatchesUp g.s l.initial.edition l.newest l.edition l.at
