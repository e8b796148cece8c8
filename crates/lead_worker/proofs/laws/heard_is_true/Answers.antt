use Rattle.lead_worker.proofs.HeardLemmas as heard
use Rattle.lead_worker.proofs.laws.heard_is_true.Goals as goal

-- src/laws.rt
pub returns : goal.returns
returns c = heard.heard_is_true
