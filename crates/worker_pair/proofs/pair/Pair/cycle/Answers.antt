use Rattle.std.proofs.Common.{sym, subst}
use Rattle.std.specs.Prelude.{OnOk}
use Rattle.std.proofs.lemmas.Result.{on_ok_weaker}
use Rattle.process_cycle.specs.Playing.{IsPlaying}
use Rattle.process_cycle.specs.Promised.{IsMastered}
use Rattle.worker_pair.specs.Begun.{playing_at}
use Rattle.worker_pair.specs.Plays.{Cycles}
use Rattle.worker_pair.specs.Runs.{HearsInput, Rests, Runs}
use Rattle.worker_pair.specs.Steps.{EndsAsMachine}
use Rattle.worker_pair.proofs.AnswerLemmas as answers
use Rattle.worker_pair.proofs.pair.Pair.cycle.Goals as goal

pub cycle-answer-requires : goal.cycle-answer-requires
cycle-answer-requires g c κs within = let may = c.requires.1.1.1 in let was = may.runs.entered in (
  within.0,
  (within.1, record { playing = may.runs.playing; edition = was.edition_of; given = sym may.given; looked = may.looked; room = was.room may.in_cycle; unended = was.unended may.in_cycle }),
)

pub meet-requires : goal.meet-requires
meet-requires g c = let M = g.M.Media.outside in let I = g.I.Source.outside in let W = g.W.Sink.outside in let self = c.args.self.now in let may = c.requires.1.1.1 in
    let q = c.cycle-answer.new.self in let cycle = c.cycle-answer.ensures in let answer = c.cycle-answer.result in
    answers.may_meet_either M I W g.at self may q answer cycle.made cycle.fault

pub returns-clause-runs : goal.returns-clause-runs
returns-clause-runs g c = let M = g.M.Media.outside in let I = g.I.Source.outside in let W = g.W.Sink.outside in let self = c.args.self.now in let may = c.requires.1.1.1 in
    let q = c.cycle-answer.new.self in let cycle = c.cycle-answer.ensures in let answer = c.cycle-answer.result in let ours = c.meet.new.other.ends in let theirs = c.meet.new.self.ends in
    let ends = c.meet.ensures.meets.ends in
    let whole = answers.whole M I W g.at self may q ours theirs ends c.meet.new.self c.meet.new.other c.meet.ensures.same c.meet.ensures.meets.same in
    subst (λ p. OnOk answer (Runs M I W g.at p)) (sym whole) (answers.runs_either M I W g.at self may q ours theirs ends answer cycle.made
    (on_ok_weaker answer (λ playing. subst (IsPlaying I (playing_at g.at)) c.meet.ensures.meets.same (c.meet.ensures.meets.playing (playing_at g.at) playing)) cycle.playing)
    (on_ok_weaker answer (λ mastered head. subst (IsMastered W (playing_at g.at)) c.meet.ensures.meets.same (c.meet.ensures.meets.master (playing_at g.at) (mastered (may.runs.mastered head)))) cycle.master))

pub returns-clause-rests : goal.returns-clause-rests
returns-clause-rests g c = let M = g.M.Media.outside in let I = g.I.Source.outside in let W = g.W.Sink.outside in let self = c.args.self.now in let may = c.requires.1.1.1 in
    let q = c.cycle-answer.new.self in let cycle = c.cycle-answer.ensures in let answer = c.cycle-answer.result in let ours = c.meet.new.other.ends in let theirs = c.meet.new.self.ends in
    let ends = c.meet.ensures.meets.ends in
    let whole = answers.whole M I W g.at self may q ours theirs ends c.meet.new.self c.meet.new.other c.meet.ensures.same c.meet.ensures.meets.same in
    subst (Rests M g.at) (sym whole) (answers.rests_either M I W g.at self may q ours theirs ends answer (answers.runs_either M I W g.at self may q ours theirs ends answer cycle.made
    (on_ok_weaker answer (λ playing. subst (IsPlaying I (playing_at g.at)) c.meet.ensures.meets.same (c.meet.ensures.meets.playing (playing_at g.at) playing)) cycle.playing)
    (on_ok_weaker answer (λ mastered head. subst (IsMastered W (playing_at g.at)) c.meet.ensures.meets.same (c.meet.ensures.meets.master (playing_at g.at) (mastered (may.runs.mastered head)))) cycle.master)) cycle.fault cycle.of)

pub returns-clause-hears : goal.returns-clause-hears
returns-clause-hears g c = let M = g.M.Media.outside in let I = g.I.Source.outside in let W = g.W.Sink.outside in let self = c.args.self.now in let may = c.requires.1.1.1 in
    let q = c.cycle-answer.new.self in let cycle = c.cycle-answer.ensures in let answer = c.cycle-answer.result in let ours = c.meet.new.other.ends in let theirs = c.meet.new.self.ends in
    let ends = c.meet.ensures.meets.ends in
    let whole = answers.whole M I W g.at self may q ours theirs ends c.meet.new.self c.meet.new.other c.meet.ensures.same c.meet.ensures.meets.same in
    subst (HearsInput I g.at) (sym whole) (answers.hears_either M I W g.at self may q ours theirs ends answer
    (on_ok_weaker answer (λ playing. subst (IsPlaying I (playing_at g.at)) c.meet.ensures.meets.same (c.meet.ensures.meets.playing (playing_at g.at) playing)) cycle.playing) cycle.fault cycle.reads)

pub returns-clause-cycles : goal.returns-clause-cycles
returns-clause-cycles g c = let M = g.M.Media.outside in let I = g.I.Source.outside in let W = g.W.Sink.outside in let self = c.args.self.now in let may = c.requires.1.1.1 in
    let q = c.cycle-answer.new.self in let cycle = c.cycle-answer.ensures in let answer = c.cycle-answer.result in let ours = c.meet.new.other.ends in let theirs = c.meet.new.self.ends in
    let ends = c.meet.ensures.meets.ends in
    let whole = answers.whole M I W g.at self may q ours theirs ends c.meet.new.self c.meet.new.other c.meet.ensures.same c.meet.ensures.meets.same in
    subst (Cycles I W g.at self answer) (sym whole) (answers.cycles_either M I W g.at self may q ours theirs ends answer cycle.made cycle.reads cycle.writes cycle.fault)

pub returns-clause-as_machine : goal.returns-clause-as_machine
returns-clause-as_machine g c = let M = g.M.Media.outside in let I = g.I.Source.outside in let W = g.W.Sink.outside in let self = c.args.self.now in let may = c.requires.1.1.1 in
    let q = c.cycle-answer.new.self in let cycle = c.cycle-answer.ensures in let answer = c.cycle-answer.result in let ours = c.meet.new.other.ends in let theirs = c.meet.new.self.ends in
    let ends = c.meet.ensures.meets.ends in
    let whole = answers.whole M I W g.at self may q ours theirs ends c.meet.new.self c.meet.new.other c.meet.ensures.same c.meet.ensures.meets.same in
    subst (EndsAsMachine g.at.begun.session self answer) (sym whole) (answers.ends_either M I W g.at self may q ours theirs ends answer cycle.made)
