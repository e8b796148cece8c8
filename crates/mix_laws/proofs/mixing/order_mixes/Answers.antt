-- The law is the lemma.
use Rattle.mix_laws.proofs.MixingLaws as laws
use Rattle.mix_laws.proofs.mixing.order_mixes.Goals as goal

pub returns : goal.returns
returns c = laws.order_mixes c.deeper_is_the_same.ensures c.only_links_feed.ensures
