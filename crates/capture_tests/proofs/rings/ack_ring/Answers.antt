use Rattle.std.proofs.Common.{◌∙◌}
use Rattle.capture_tests.proofs.RingLemmas.{new_ack_end, no_samples}
use Rattle.capture_tests.proofs.rings.ack_ring.Goals as goal

pub returns-clause-to : goal.returns-clause-to
returns-clause-to c = c.new.ensures ∙ c.in_ok-to.ensures.room 0 (no_samples _)

pub returns-clause-from : goal.returns-clause-from
returns-clause-from c = new_ack_end 1 c.in_ok-to.to c.in_ok-to.from c.in_ok-to.ensures.ends (c.in_ok-to.ensures.room 0 (no_samples _))
