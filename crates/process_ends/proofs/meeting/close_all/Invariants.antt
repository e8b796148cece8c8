use Rattle.process_ends.proofs.MeetLemmas.{ShutBelow}
use Rattle.process_ends.proofs.meeting.close_all.Given as goal

abbrev pub invariant-loop-t : goal.invariant-loop-t
invariant-loop-t g l = ShutBelow l.fn.senders l.senders l.t
