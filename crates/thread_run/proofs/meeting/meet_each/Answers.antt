use Rattle.std.proofs.Common.{arith}
use Rattle.process_ends.proofs.MeetLemmas.{meets_one}
use Rattle.thread_run.proofs.meeting.meet_each.Goals as goal

-- src/meeting.rt
pub loop-t-preserved : goal.loop-t-preserved
loop-t-preserved g c = let l = c.loop-t in
    meets_one c.args.senders.now c.args.receivers.now l.senders l.receivers l.t l.invariant (omega (arith, c.loop-t-test.true, l.auto.t-end)) c.requires.one_ring.count
    c.index-senders-t.result c.index-receivers-t.result c.meet.new.a c.meet.new.b
    (record { sender = c.meet.ensures.sender; receiver = c.meet.ensures.receiver; met = c.meet.ensures.met })
