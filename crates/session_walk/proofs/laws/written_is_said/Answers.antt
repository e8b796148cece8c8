-- The law is the lemma.
use Rattle.session_walk.proofs.SaysLaws
use Rattle.session_walk.proofs.laws.written_is_said.Goals as goal

pub returns : goal.returns
returns c = SaysLaws.written_is_said
