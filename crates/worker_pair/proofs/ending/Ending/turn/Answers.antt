use Rattle.std.proofs.Common.{sym, subst}
use Rattle.butler.specs.Serving.{AreStocked}
use Rattle.piece_item.specs.declared.butler_ends.ButlerEnds.{ButlerEnds}
use Rattle.process_ends.specs.Ends.{EndsMeet, MayMeet}
use Rattle.worker_pair.proofs.MetLemmas.{resumes}
use Rattle.worker_pair.proofs.TurnLemmas as turns
use Rattle.worker_pair.proofs.LessLemmas.{turns_turned}
use Rattle.worker_pair.proofs.CoreTurnLemmas.{ending_turned}
use Rattle.worker_pair.proofs.ending.Ending.turn.Goals as goal

-- src/ending.rt
pub meet_ends-requires : goal.meet_ends-requires
meet_ends-requires g c = let self = c.args.self in let b = c.turn-answer.new.self in let a = c.turn-answer.ensures in let M = g.M.Media.outside in
    let turn = turns.is_turned M g.at self c.turn-answer.result b a.serving a.receives a.takes a.sends a.stays_true a.answer a.fails a.rest in
    subst (MayMeet self.ends) (sym c.rest-resting.ensures.ends) (turns.may_meet_turned M g.at self c.turn-answer.result b c.requires.1 turn)

pub resume-butler-requires-clause-stocked : goal.resume-butler-requires-clause-stocked
resume-butler-requires-clause-stocked g c = let self = c.args.self in let b = c.turn-answer.new.self in let a = c.turn-answer.ensures in let M = g.M.Media.outside in let ours = c.meet_ends.new.ours in
    let theirs = c.meet_ends.new.theirs in
    let turn = turns.is_turned M g.at self c.turn-answer.result b a.serving a.receives a.takes a.sends a.stays_true a.answer a.fails a.rest in
    let meet = subst (λ (z : ButlerEnds). EndsMeet self.ends z ours theirs) c.rest-resting.ensures.ends c.meet_ends.ensures in
    let r = c.rest-resting.result.0 in
    turns.stocked_turned M g.at self c.turn-answer.result b c.requires.1 turn ours theirs meet r c.rest-resting.ensures.rested
    (subst (AreStocked r.supplies r.drain) c.rest-resting.ensures.ends c.rest-resting.ensures.stocked)

pub returns-clause-serves : goal.returns-clause-serves
returns-clause-serves g c = let self = c.args.self in let b = c.turn-answer.new.self in let a = c.turn-answer.ensures in let M = g.M.Media.outside in let ours = c.meet_ends.new.ours in
    let theirs = c.meet_ends.new.theirs in
    let turn = turns.is_turned M g.at self c.turn-answer.result b a.serving a.receives a.takes a.sends a.stays_true a.answer a.fails a.rest in
    let meet = subst (λ (z : ButlerEnds). EndsMeet self.ends z ours theirs) c.rest-resting.ensures.ends c.meet_ends.ensures in
    let butler = resumes b theirs c.rest-resting.result.0 c.resume-butler.result c.resume-butler.ensures c.rest-resting.ensures.rested in
    turns.serves_turned M g.at self c.turn-answer.result b c.requires.1 turn ours theirs meet c.resume-butler.result butler

pub returns-clause-turns : goal.returns-clause-turns
returns-clause-turns g c = let self = c.args.self in let b = c.turn-answer.new.self in let a = c.turn-answer.ensures in let M = g.M.Media.outside in let ours = c.meet_ends.new.ours in
    let theirs = c.meet_ends.new.theirs in
    let turn = turns.is_turned M g.at self c.turn-answer.result b a.serving a.receives a.takes a.sends a.stays_true a.answer a.fails a.rest in
    let meet = subst (λ (z : ButlerEnds). EndsMeet self.ends z ours theirs) c.rest-resting.ensures.ends c.meet_ends.ensures in
    let butler = resumes b theirs c.rest-resting.result.0 c.resume-butler.result c.resume-butler.ensures c.rest-resting.ensures.rested in
    turns_turned M g.at self c.turn-answer.result b c.requires.1 turn ours theirs meet c.resume-butler.result butler

pub returns-clause-as_machine : goal.returns-clause-as_machine
returns-clause-as_machine g c = let self = c.args.self in let b = c.turn-answer.new.self in let a = c.turn-answer.ensures in let M = g.M.Media.outside in let ours = c.meet_ends.new.ours in
    let theirs = c.meet_ends.new.theirs in
    let turn = turns.is_turned M g.at self c.turn-answer.result b a.serving a.receives a.takes a.sends a.stays_true a.answer a.fails a.rest in
    let meet = subst (λ (z : ButlerEnds). EndsMeet self.ends z ours theirs) c.rest-resting.ensures.ends c.meet_ends.ensures in
    let butler = resumes b theirs c.rest-resting.result.0 c.resume-butler.result c.resume-butler.ensures c.rest-resting.ensures.rested in
    ending_turned M g.at self c.turn-answer.result b c.requires.1 turn ours theirs meet c.resume-butler.result butler
