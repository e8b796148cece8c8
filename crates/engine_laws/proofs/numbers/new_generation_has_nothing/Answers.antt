-- The law is the lemma.
use Rattle.engine_laws.proofs.DueLemmas
use Rattle.engine_laws.proofs.numbers.new_generation_has_nothing.Goals as goal

pub returns : goal.returns
returns c = DueLemmas.start_keeps
