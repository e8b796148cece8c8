-- The law is the lemma.
use Rattle.mix_laws.proofs.MixingLaws as laws
use Rattle.mix_laws.proofs.mixing.order_is_whole.Goals as goal

pub returns : goal.returns
returns c = laws.order_is_whole c.deeper_is_the_same.ensures
