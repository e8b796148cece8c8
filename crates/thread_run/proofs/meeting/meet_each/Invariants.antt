use Rattle.process_ends.proofs.MeetLemmas.{MetBelow}
use Rattle.thread_run.proofs.meeting.meet_each.Given as goal

abbrev pub invariant-loop-t : goal.invariant-loop-t
invariant-loop-t g l = MetBelow l.fn.senders l.fn.receivers l.senders l.receivers l.t
