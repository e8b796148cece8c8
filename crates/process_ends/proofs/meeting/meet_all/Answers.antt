use Rattle.std.proofs.Common.{arith}
use Rattle.process_ends.proofs.MeetLemmas.{meets_one, still_met}
use Rattle.process_ends.proofs.meeting.meet_all.Goals as goal

pub loop-t-preserved : goal.loop-t-preserved
loop-t-preserved g c = let l = c.loop-t in
    meets_one c.args.senders.now c.args.receivers.now l.senders l.receivers l.t l.invariant (omega (arith, c.loop-t-test.true, l.auto.t-end)) c.requires.one_ring.count
    c.index-senders-t.result c.index-receivers-t.result c.meet_again.new.a c.meet_again.new.b
    (record { sender = c.meet_again.ensures.sender; receiver = c.meet_again.ensures.receiver; met = c.meet_again.ensures.met })

pub meet_again-requires-clause-still_met : goal.meet_again-requires-clause-still_met
meet_again-requires-clause-still_met g c = let l = c.loop-t in
    still_met c.args.senders.now c.args.receivers.now l.senders l.receivers l.t l.invariant c.requires.one_ring c.requires.still_met (omega (arith, c.loop-t-test.true, l.auto.t-end))
    c.index-senders-t.result c.index-receivers-t.result
