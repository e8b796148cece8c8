use Rattle.layer_laws.proofs.NearLemmas.{over_stays_near}
use Rattle.layer_laws.proofs.near.over_stays_near.Goals as goal

pub returns : goal.returns
returns c = over_stays_near
