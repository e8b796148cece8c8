-- The law is the lemma.
use Rattle.mix_laws.proofs.MixingLaws as laws
use Rattle.mix_laws.proofs.mixing.tracks_take_their_own.Goals as goal

pub returns : goal.returns
returns c = laws.tracks_take_their_own c.deeper_is_the_same.ensures
