use Rattle.cycle_grants.proofs.AllowedLemmas.{awaiting_keeps_allowances}
use Rattle.cycle_grants.proofs.laws.awaiting_keeps_allowances.Goals as goal

pub returns : goal.returns
returns c = awaiting_keeps_allowances
