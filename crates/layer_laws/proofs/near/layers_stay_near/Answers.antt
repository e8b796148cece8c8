use Rattle.layer_laws.proofs.NearLemmas.{layers_stay_near}
use Rattle.layer_laws.proofs.near.layers_stay_near.Goals as goal

pub returns : goal.returns
returns c = layers_stay_near
