use Rattle.std.proofs.Common.{length}
use Rattle.ground_tests.proofs.BoxLemmas.{one_room}
use Rattle.ground_tests.proofs.boxes.ring_of.Goals as goal

pub ring-requires-clause-room : goal.ring-requires-clause-room
ring-requires-clause-room c = (length c.args.husk.value.samples.items, one_room (λ item. length item.samples.items) c.args.husk _ _ c.new-husks.ensures.items c.in_ok-push.ensures.items)

pub returns-clause-room : goal.returns-clause-room
returns-clause-room c = c.in_ok-to.ensures.room (length c.args.husk.value.samples.items) (one_room (λ item. length item.samples.items) c.args.husk _ _ c.new-husks.ensures.items c.in_ok-push.ensures.items)
