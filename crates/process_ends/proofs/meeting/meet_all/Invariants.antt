use Rattle.process_ends.proofs.MeetLemmas.{MetBelow}
use Rattle.process_ends.proofs.meeting.meet_all.Given as goal

abbrev pub invariant-loop-t : goal.invariant-loop-t
invariant-loop-t g l = MetBelow l.fn.senders l.fn.receivers l.senders l.receivers l.t
