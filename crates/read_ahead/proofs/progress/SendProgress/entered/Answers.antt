use Rattle.std.proofs.Common.{rules}
use Rattle.read_ahead.proofs.progress.SendProgress.entered.Goals as goal

pub returns-then-self-touched : goal.returns-then-self-touched
returns-then-self-touched c = search rules
