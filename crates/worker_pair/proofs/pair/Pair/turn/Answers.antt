use Rattle.worker_pair.specs.Begun.{playing_at}
use Rattle.worker_pair.specs.Tied.{rings_of}
use Rattle.worker_pair.proofs.TurnLemmas as turns
use Rattle.worker_pair.proofs.LessLemmas.{turns_turned}
use Rattle.worker_pair.proofs.PairTurnLemmas.{rests_turned, runs_turned, hears_turned, as_machine_turned}
use Rattle.worker_pair.proofs.pair.Pair.turn.Goals as goal

-- src/turning.rt
pub meet-requires : goal.meet-requires
meet-requires g c = let self = c.args.self.now in let e = rings_of self in let b = c.turn-answer.new.self in let a = c.turn-answer.ensures in let M = g.M.Media.outside in
    let turn = turns.is_turned M g.at e c.turn-answer.result b a.serving a.receives a.takes a.sends a.stays_true a.answer a.fails a.rest in
    turns.may_meet_turned M g.at e c.turn-answer.result b c.requires.1.1.1.serves turn

pub returns-clause-rests : goal.returns-clause-rests
returns-clause-rests g c = let self = c.args.self.now in let e = rings_of self in let b = c.turn-answer.new.self in let a = c.turn-answer.ensures in let M = g.M.Media.outside in let ours = c.meet.new.other.ends in
    let theirs = c.meet.new.self.ends in let rests = c.requires.1.1.1 in let I = g.I.Source.outside in let W = g.W.Sink.outside in
    let turn = turns.is_turned M g.at e c.turn-answer.result b a.serving a.receives a.takes a.sends a.stays_true a.answer a.fails a.rest in
    rests_turned M I W g.at self rests b ours theirs c.meet.ensures.meets.ends c.meet.new.self c.meet.new.other c.meet.ensures.same c.meet.ensures.meets.same c.turn-answer.result turn

pub returns-clause-runs : goal.returns-clause-runs
returns-clause-runs g c = let self = c.args.self.now in let e = rings_of self in let b = c.turn-answer.new.self in let a = c.turn-answer.ensures in let M = g.M.Media.outside in let ours = c.meet.new.other.ends in
    let theirs = c.meet.new.self.ends in let rests = c.requires.1.1.1 in let I = g.I.Source.outside in let W = g.W.Sink.outside in
    let turn = turns.is_turned M g.at e c.turn-answer.result b a.serving a.receives a.takes a.sends a.stays_true a.answer a.fails a.rest in
    runs_turned M I W g.at self rests b ours theirs c.meet.ensures.meets.ends c.meet.new.self c.meet.new.other c.meet.ensures.same c.meet.ensures.meets.same c.turn-answer.result turn (c.meet.ensures.meets.playing (playing_at g.at)) (c.meet.ensures.meets.master (playing_at g.at))

pub returns-clause-mastered : goal.returns-clause-mastered
returns-clause-mastered g c = c.meet.ensures.meets.master (playing_at g.at)

pub returns-clause-hears : goal.returns-clause-hears
returns-clause-hears g c = let self = c.args.self.now in let e = rings_of self in let b = c.turn-answer.new.self in let a = c.turn-answer.ensures in let M = g.M.Media.outside in let ours = c.meet.new.other.ends in
    let theirs = c.meet.new.self.ends in let rests = c.requires.1.1.1 in let I = g.I.Source.outside in let W = g.W.Sink.outside in
    let turn = turns.is_turned M g.at e c.turn-answer.result b a.serving a.receives a.takes a.sends a.stays_true a.answer a.fails a.rest in
    hears_turned M I W g.at self rests b ours theirs c.meet.ensures.meets.ends c.meet.new.self c.meet.new.other c.meet.ensures.same c.meet.ensures.meets.same c.turn-answer.result turn

pub returns-clause-turns : goal.returns-clause-turns
returns-clause-turns g c = let self = c.args.self.now in let e = rings_of self in let b = c.turn-answer.new.self in let a = c.turn-answer.ensures in let M = g.M.Media.outside in let ours = c.meet.new.other.ends in
    let theirs = c.meet.new.self.ends in let rests = c.requires.1.1.1 in let I = g.I.Source.outside in let W = g.W.Sink.outside in
    let turn = turns.is_turned M g.at e c.turn-answer.result b a.serving a.receives a.takes a.sends a.stays_true a.answer a.fails a.rest in
    turns_turned M g.at e c.turn-answer.result b rests.serves turn ours theirs c.meet.ensures.meets.ends c.meet.new.self c.meet.ensures.same

pub returns-clause-as_machine : goal.returns-clause-as_machine
returns-clause-as_machine g c = let self = c.args.self.now in let e = rings_of self in let b = c.turn-answer.new.self in let a = c.turn-answer.ensures in let M = g.M.Media.outside in let ours = c.meet.new.other.ends in
    let theirs = c.meet.new.self.ends in let rests = c.requires.1.1.1 in let I = g.I.Source.outside in let W = g.W.Sink.outside in
    let turn = turns.is_turned M g.at e c.turn-answer.result b a.serving a.receives a.takes a.sends a.stays_true a.answer a.fails a.rest in
    as_machine_turned M I W g.at self rests b ours theirs c.meet.ensures.meets.ends c.meet.new.self c.meet.new.other c.meet.ensures.same c.meet.ensures.meets.same c.turn-answer.result turn
