-- The law is the lemma.
use Rattle.session_change.proofs.OrderLemmas as laws
use Rattle.session_change.proofs.laws.a_change_that_relinks_nothing_keeps_the_order.Goals as goal

pub returns : goal.returns
returns c = laws.a_change_that_relinks_nothing_keeps_the_order
