use Rattle.process_cycle.proofs.TruthLemmas.{promised_true}
use Rattle.process_cycle.proofs.laws.promises_are_truthful.Goals as goal

-- src/laws.rt:5:1
pub returns : goal.returns
returns c = promised_true
