-- The law is the lemma.
use Rattle.edition_log.proofs.AsOpenedLemmas
use Rattle.edition_log.proofs.laws.transport_edits_leave_the_session.Goals as goal

pub returns : goal.returns
returns c = AsOpenedLemmas.transport_edits_leave_the_session
