use Rattle.butler_tests.proofs.RingLemmas.{new_receiver}
use Rattle.butler_tests.proofs.rings.take_ring.Goals as goal

pub ring-requires-clause-room : goal.ring-requires-clause-room
ring-requires-clause-room c = (c.args.samples, c.in_ok-blank_blocks.ensures.room)

pub returns : goal.returns
returns c = record { from = new_receiver c.args.depth c.args.samples c.in_ok-to.to c.in_ok-to.from c.in_ok-to.ensures.ends (c.in_ok-to.ensures.room c.args.samples c.in_ok-blank_blocks.ensures.room) }
