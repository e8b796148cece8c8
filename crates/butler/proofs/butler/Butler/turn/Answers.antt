use Rattle.std.proofs.Common.{◌+◌, ◌-◌}
use Rattle.butler.proofs.TurnStepsLemmas as steps
use Rattle.butler.proofs.FlushedLemmas as flushed
use Rattle.butler.proofs.FaultLemmas as faults
use Rattle.butler.proofs.AnswerLemmas as answers
use Rattle.butler.proofs.butler.Butler.turn.Goals as goal

-- ---- what the steps ask

pub enter-requires : goal.enter-requires
enter-requires g c = steps.may_enter g.at c.args.e.now c.args.self.now c.accept.new.self c.requires.1.0 c.accept.ensures

pub send-requires-clause-ready : goal.send-requires-clause-ready
send-requires-clause-ready g c = steps.may_read g.at c.args.e.now c.args.self.now c.accept.new.self c.requires.1.0 c.accept.ensures c.enter.new.self c.enter.ensures.enters c.enter.ensures.seen
    g.M.Media.outside c.args.most _ c.flush.new.self c.flush.ensures.flushes

pub send-requires-clause-tracks : goal.send-requires-clause-tracks
send-requires-clause-tracks g c = steps.many_supplies g.at c.args.e.now c.args.self.now c.accept.new.self c.requires.1.0 c.accept.ensures c.enter.new.self c.enter.ensures.enters c.enter.ensures.seen
    g.M.Media.outside c.args.most _ c.flush.new.self c.flush.ensures.flushes

pub send-requires-clause-stocked : goal.send-requires-clause-stocked
send-requires-clause-stocked g c = steps.boxes_are g.at c.args.e.now c.args.self.now c.accept.new.self c.requires.1.0 c.accept.ensures c.enter.new.self c.enter.ensures.enters c.enter.ensures.seen
    g.M.Media.outside c.args.most _ c.flush.new.self c.flush.ensures.flushes c.flush.ensures.stocked

-- ---- a write failed

pub returns-in_default-clause-serving : goal.returns-in_default-clause-serving
returns-in_default-clause-serving g c = steps.flushed g.at c.args.e.now c.args.self.now c.accept.new.self c.requires.1.0 c.accept.ensures c.enter.new.self c.enter.ensures.enters c.enter.ensures.seen
    g.M.Media.outside c.args.most _ c.flush.new.self c.flush.ensures.flushes

pub returns-in_default-clause-sends : goal.returns-in_default-clause-sends
returns-in_default-clause-sends g c = steps.none_sent g.at c.args.e.now c.args.self.now c.accept.new.self c.requires.1.0 c.accept.ensures c.enter.new.self c.enter.ensures.enters c.enter.ensures.seen
    g.M.Media.outside c.args.most _ c.flush.new.self c.flush.ensures.flushes

pub returns-in_default-clause-stays_true : goal.returns-in_default-clause-stays_true
returns-in_default-clause-stays_true g c = λ told stand. steps.flushed_true g.at c.args.e.now c.args.self.now c.accept.new.self c.requires.1.0 c.accept.ensures c.enter.new.self c.enter.ensures.enters c.enter.ensures.seen
    g.M.Media.outside c.args.most _ c.flush.new.self c.flush.ensures.flushes g.at.held

pub returns-in_default-clause-receives : goal.returns-in_default-clause-receives
returns-in_default-clause-receives g c = flushed.received g.M.Media.outside g.at c.args.e.now c.args.most c.args.self.now c.accept.new.self c.enter.new.self c.flush.new.self c.accept.ensures c.enter.ensures.enters _ c.in_default.ensures.flushes

pub returns-in_default-clause-takes : goal.returns-in_default-clause-takes
returns-in_default-clause-takes g c = faults.cut_takes g.M.Media.outside g.at c.args.e.now c.args.most c.args.self.now c.accept.new.self c.enter.new.self c.flush.new.self c.accept.ensures c.enter.ensures.enters _ c.in_default.ensures.flushes

pub returns-in_default-clause-answer : goal.returns-in_default-clause-answer
returns-in_default-clause-answer g c = let broken = flushed.broken g.M.Media.outside g.at c.args.e.now c.args.most c.args.self.now c.accept.new.self c.enter.new.self c.flush.new.self c.accept.ensures c.enter.ensures.enters _ c.in_default.ensures.flushes in
    record { sends = flushed.sends_after g.M.Media.outside g.at c.args.e.now c.args.most c.args.self.now c.accept.new.self c.enter.new.self c.flush.new.self c.accept.ensures c.enter.ensures.enters _ c.in_default.ensures.flushes; some = broken.some; few = broken.few }

pub returns-in_default-clause-fails : goal.returns-in_default-clause-fails
returns-in_default-clause-fails g c = faults.cut_fails g.M.Media.outside g.at c.args.e.now c.args.most c.args.self.now c.accept.new.self c.enter.new.self c.flush.new.self c.accept.ensures c.enter.ensures.enters _ c.in_default.ensures.flushes

pub returns-in_default-clause-rest : goal.returns-in_default-clause-rest
returns-in_default-clause-rest g c = faults.cut_rest g.M.Media.outside g.at c.args.e.now c.args.most c.args.self.now c.accept.new.self c.enter.new.self c.flush.new.self c.accept.ensures c.enter.ensures.enters _ c.in_default.ensures.flushes

-- ---- a read failed

pub returns-in_default-send-clause-serving : goal.returns-in_default-send-clause-serving
returns-in_default-send-clause-serving g c = (steps.come g.at c.args.e.now c.args.self.now c.accept.new.self c.requires.1.0 c.accept.ensures c.enter.new.self c.enter.ensures.enters c.enter.ensures.seen
    g.M.Media.outside c.args.most _ c.flush.new.self c.flush.ensures.flushes _ _ _ c.send.ensures).serving

pub returns-in_default-send-clause-sends : goal.returns-in_default-send-clause-sends
returns-in_default-send-clause-sends g c = steps.sends g.at c.args.e.now c.args.self.now c.accept.new.self c.requires.1.0 c.accept.ensures c.enter.new.self c.enter.ensures.enters c.enter.ensures.seen
    g.M.Media.outside c.args.most _ c.flush.new.self c.flush.ensures.flushes _ _ _ c.send.ensures

pub returns-in_default-send-clause-stays_true : goal.returns-in_default-send-clause-stays_true
returns-in_default-send-clause-stays_true g c = steps.stays_true g.at c.args.e.now c.args.self.now c.accept.new.self c.requires.1.0 c.accept.ensures c.enter.new.self c.enter.ensures.enters c.enter.ensures.seen
    g.M.Media.outside c.args.most _ c.flush.new.self c.flush.ensures.flushes _ _ _ c.send.ensures

pub returns-in_default-send-clause-answer : goal.returns-in_default-send-clause-answer
returns-in_default-send-clause-answer g c = let sends = c.in_default-send.ensures in
    answers.closes g.M.Media.outside g.at c.args.e.now c.args.most c.in-Ok.flushed c.args.self.now c.accept.new.self c.enter.new.self c.flush.new.self c.send.new.self
    c.accept.ensures c.enter.ensures.enters c.in-Ok.ensures.flushes _ sends (steps.come g.at c.args.e.now c.args.self.now c.accept.new.self c.requires.1.0 c.accept.ensures c.enter.new.self c.enter.ensures.enters c.enter.ensures.seen
    g.M.Media.outside c.args.most _ c.flush.new.self c.in-Ok.ensures.flushes _ _ _ sends).answer sends.some

pub returns-in_default-send-clause-fails : goal.returns-in_default-send-clause-fails
returns-in_default-send-clause-fails g c = faults.read_fails g.M.Media.outside g.at c.args.e.now c.args.most c.in-Ok.flushed (c.args.most - c.in-Ok.flushed) _ c.args.self.now c.accept.new.self c.enter.new.self c.flush.new.self c.send.new.self
    c.accept.ensures c.enter.ensures.enters c.in-Ok.ensures.flushes c.in_default-send.ensures

pub returns-in_default-send-clause-rest : goal.returns-in_default-send-clause-rest
returns-in_default-send-clause-rest g c = faults.rest g.M.Media.outside g.at c.args.e.now c.args.most c.in-Ok.flushed (c.args.most - c.in-Ok.flushed) c.args.self.now c.accept.new.self c.enter.new.self c.flush.new.self c.send.new.self
    c.accept.ensures c.enter.ensures.enters c.in-Ok.ensures.flushes _ c.in_default-send.ensures

pub returns-in_default-send-clause-receives : goal.returns-in_default-send-clause-receives
returns-in_default-send-clause-receives g c = faults.receives g.M.Media.outside g.at c.args.e.now c.args.most c.in-Ok.flushed (c.args.most - c.in-Ok.flushed) c.args.self.now c.accept.new.self c.enter.new.self c.flush.new.self c.send.new.self
    c.accept.ensures c.enter.ensures.enters c.in-Ok.ensures.flushes _ c.in_default-send.ensures

pub returns-in_default-send-clause-takes : goal.returns-in_default-send-clause-takes
returns-in_default-send-clause-takes g c = faults.kept g.M.Media.outside g.at c.args.e.now c.args.most c.in-Ok.flushed (c.args.most - c.in-Ok.flushed) c.args.self.now c.accept.new.self c.enter.new.self c.flush.new.self c.send.new.self
    c.accept.ensures c.enter.ensures.enters c.in-Ok.ensures.flushes _ c.in_default-send.ensures

-- ---- nothing failed

pub returns-clause-serving : goal.returns-clause-serving
returns-clause-serving g c = (steps.come g.at c.args.e.now c.args.self.now c.accept.new.self c.requires.1.0 c.accept.ensures c.enter.new.self c.enter.ensures.enters c.enter.ensures.seen
    g.M.Media.outside c.args.most _ c.flush.new.self c.flush.ensures.flushes _ _ _ c.send.ensures).serving

pub returns-clause-sends : goal.returns-clause-sends
returns-clause-sends g c = steps.sends g.at c.args.e.now c.args.self.now c.accept.new.self c.requires.1.0 c.accept.ensures c.enter.new.self c.enter.ensures.enters c.enter.ensures.seen
    g.M.Media.outside c.args.most _ c.flush.new.self c.flush.ensures.flushes _ _ _ c.send.ensures

pub returns-clause-stays_true : goal.returns-clause-stays_true
returns-clause-stays_true g c = steps.stays_true g.at c.args.e.now c.args.self.now c.accept.new.self c.requires.1.0 c.accept.ensures c.enter.new.self c.enter.ensures.enters c.enter.ensures.seen
    g.M.Media.outside c.args.most _ c.flush.new.self c.flush.ensures.flushes _ _ _ c.send.ensures

pub returns-clause-answer : goal.returns-clause-answer
returns-clause-answer g c = let sends = c.in-Ok-send.ensures in
    answers.answers_by g.at.session c.args.e.now c.args.most (c.in-Ok.flushed + c.in-Ok-send.sent) c.args.self.now c.send.new.self c.turn_of.result c.turn_of.ensures.idle c.turn_of.ensures.moved
    (answers.leaves g.M.Media.outside g.at c.args.e.now c.args.most c.in-Ok.flushed c.args.self.now c.accept.new.self c.enter.new.self c.flush.new.self c.send.new.self
    c.accept.ensures c.enter.ensures.enters c.in-Ok.ensures.flushes _ sends c.in-Ok-send.sent (steps.come g.at c.args.e.now c.args.self.now c.accept.new.self c.requires.1.0 c.accept.ensures c.enter.new.self c.enter.ensures.enters c.enter.ensures.seen
    g.M.Media.outside c.args.most _ c.flush.new.self c.in-Ok.ensures.flushes _ _ _ sends).answer)

pub returns-clause-fails : goal.returns-clause-fails
returns-clause-fails g c = faults.none_fails g.M.Media.outside g.at c.args.e.now c.args.most c.in-Ok.flushed (c.args.most - c.in-Ok.flushed) c.in-Ok-send.sent c.args.self.now c.accept.new.self c.enter.new.self c.flush.new.self c.send.new.self
    c.accept.ensures c.enter.ensures.enters c.in-Ok.ensures.flushes c.in-Ok-send.ensures c.turn_of.result

pub returns-clause-rest : goal.returns-clause-rest
returns-clause-rest g c = let sends = c.in-Ok-send.ensures in
    faults.rest g.M.Media.outside g.at c.args.e.now c.args.most c.in-Ok.flushed (c.args.most - c.in-Ok.flushed) c.args.self.now c.accept.new.self c.enter.new.self c.flush.new.self c.send.new.self
    c.accept.ensures c.enter.ensures.enters c.in-Ok.ensures.flushes _ sends

pub returns-clause-receives : goal.returns-clause-receives
returns-clause-receives g c = faults.receives g.M.Media.outside g.at c.args.e.now c.args.most c.in-Ok.flushed (c.args.most - c.in-Ok.flushed) c.args.self.now c.accept.new.self c.enter.new.self c.flush.new.self c.send.new.self
    c.accept.ensures c.enter.ensures.enters c.in-Ok.ensures.flushes _ c.in-Ok-send.ensures

pub returns-clause-takes : goal.returns-clause-takes
returns-clause-takes g c = faults.kept g.M.Media.outside g.at c.args.e.now c.args.most c.in-Ok.flushed (c.args.most - c.in-Ok.flushed) c.args.self.now c.accept.new.self c.enter.new.self c.flush.new.self c.send.new.self
    c.accept.ensures c.enter.ensures.enters c.in-Ok.ensures.flushes _ c.in-Ok-send.ensures
