-- The law is the lemma.
use Rattle.mix_laws.proofs.MixingLaws as laws
use Rattle.mix_laws.proofs.mixing.order_sums_all.Goals as goal

pub returns : goal.returns
returns c = laws.order_sums_all
