use Rattle.track_capture.proofs.PickLemmas.{picked_is}
use Rattle.track_capture.proofs.laws.the_input_is_picked.Goals as goal

pub returns : goal.returns
returns c = picked_is
