use Rattle.input_head.proofs.WantedLemmas as lemmas
use Rattle.input_head.proofs.laws.wanted_is_the_greatest.Goals as goal

pub returns : goal.returns
returns c = lemmas.wanted_is_the_greatest
