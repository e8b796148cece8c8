use Rattle.capture_tests.proofs.RingLemmas.{new_receiver}
use Rattle.capture_tests.proofs.rings.take_ring.Goals as goal

pub ring-requires-clause-room : goal.ring-requires-clause-room
ring-requires-clause-room c = (c.args.samples, c.in_ok-blank_blocks.ensures.room)

pub returns-clause-from : goal.returns-clause-from
returns-clause-from c = new_receiver c.args.depth c.args.samples c.in_ok-to.to c.in_ok-to.from c.in_ok-to.ensures.ends (c.in_ok-to.ensures.room c.args.samples c.in_ok-blank_blocks.ensures.room)

pub returns-clause-room : goal.returns-clause-room
returns-clause-room c = c.in_ok-to.ensures.room c.args.samples c.in_ok-blank_blocks.ensures.room
