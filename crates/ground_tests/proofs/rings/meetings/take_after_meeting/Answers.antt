use Rattle.disk_ring.proofs.Meetings.{all_received}
use Rattle.ground_tests.proofs.rings.meetings.take_after_meeting.Goals as goal

pub returns-in-Err-clause-none : goal.returns-in-Err-clause-none
returns-in-Err-clause-none c = all_received _ _ _ _ _ _ c.meet.ensures.met c.meet.ensures.receiver c.in-Err.ensures.answer
