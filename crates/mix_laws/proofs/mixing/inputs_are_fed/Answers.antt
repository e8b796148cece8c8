-- The law is the lemma.
use Rattle.mix_laws.proofs.MixingLaws as laws
use Rattle.mix_laws.proofs.mixing.inputs_are_fed.Goals as goal

pub returns : goal.returns
returns c = laws.inputs_are_fed c.deeper_is_the_same.ensures
