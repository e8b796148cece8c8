use Rattle.std.proofs.Common.{ap, ◌∙◌}
use Rattle.capture_tests.proofs.RingLemmas.{new_sender}
use Rattle.capture_tests.proofs.rings.play_ring.Goals as goal

pub ring-requires-clause-room : goal.ring-requires-clause-room
ring-requires-clause-room c = (c.args.samples, c.in_ok-blanks.ensures.room)

pub returns-clause-to : goal.returns-clause-to
returns-clause-to c = new_sender c.args.depth c.args.samples c.in_ok-to.to c.in_ok-to.from c.in_ok-to.ensures.ends (c.in_ok-to.ensures.room c.args.samples c.in_ok-blanks.ensures.room)

pub returns-clause-from : goal.returns-clause-from
returns-clause-from c = ap (λ r. r.room) c.in_ok-to.ensures.ends.receiver ∙ c.in_ok-to.ensures.room c.args.samples c.in_ok-blanks.ensures.room
