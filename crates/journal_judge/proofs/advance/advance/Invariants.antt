-- The edition is that of the edits up to here.
use Rattle.journal_judge.specs.Judged.{IsAt}
use Rattle.journal_judge.proofs.advance.advance.Given as goal

abbrev pub invariant-loop-k : goal.invariant-loop-k
invariant-loop-k g l = IsAt g.s l.history.edits l.k l.e
