use Rattle.std.proofs.Common.{rules}
use Rattle.read_ahead.proofs.progress.SendProgress.step.Goals as goal

pub returns-then-target-self-clause-due : goal.returns-then-target-self-clause-due
returns-then-target-self-clause-due c = search rules

pub returns-then-target-self-clause-then : goal.returns-then-target-self-clause-then
returns-then-target-self-clause-then c = search rules
