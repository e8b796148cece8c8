use Rattle.std.proofs.Common.{arith}
use Rattle.process_ends.proofs.MeetLemmas.{all_shut}
use Rattle.process_ends.proofs.meeting.close_all.Goals as goal

pub returns : goal.returns
returns g c = let l = c.loop-t in all_shut c.args.senders.now l.senders l.t l.invariant (omega (arith, c.loop-t-test.false, l.auto.t-end, l.invariant.senders))
