use Rattle.process_cycle.proofs.SettledLemmas.{told_is_settled}
use Rattle.process_cycle.proofs.laws.told_is_settled.Goals as goal

pub returns : goal.returns
returns c = told_is_settled
