-- What is opened is valid.
use Rattle.session_opening.proofs.PlanLaws as laws
use Rattle.session_opening.proofs.laws.open_is_valid.Goals as goal

pub returns : goal.returns
returns c = laws.open_is_valid
