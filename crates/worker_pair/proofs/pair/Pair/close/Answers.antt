use Rattle.std.proofs.Common.{◌≡◌, refl, sym, ap, subst, ◌∙◌}
use Rattle.butler.specs.ButlerState.{resumed}
use Rattle.butler.specs.Serving.{AreStocked}
use Rattle.process_ends.specs.Ends.{EndsMeet, MayMeet, Meet, shut_ends}
use Rattle.worker_pair.specs.declared.ending.Stopped.{Stopped}
use Rattle.worker_pair.specs.Closes.{Closes, ClosesAsMachine}
use Rattle.worker_pair.specs.Runs.{Serves}
use Rattle.worker_pair.specs.Tied.{rings_of}
use Rattle.worker_pair.proofs.CloseLemmas as closing
use Rattle.worker_pair.proofs.pair.Pair.close.Goals as goal

-- src/ending.rt
pub meet_ends-requires : goal.meet_ends-requires
meet_ends-requires g c = let self = c.args.self in
    subst (λ e. MayMeet e c.rest-resting.result.1) (sym c.parts-input.ensures.ends) (subst (λ e. MayMeet (shut_ends self.process.ends) e) (sym c.rest-resting.ensures.ends)
    (closing.may_meet_shut self.process.ends self.butler.ends c.requires.1.1.1.serves.others c.requires.1.1.1.serves.met))

pub resume-requires-clause-stocked : goal.resume-requires-clause-stocked
resume-requires-clause-stocked g c = let self = c.args.self in let ours = c.meet_ends.new.ours in let theirs = c.meet_ends.new.theirs in let r = c.rest-resting.result.0 in let was = c.rest-resting.ensures.ends in
    let meet : EndsMeet (shut_ends self.process.ends) self.butler.ends ours theirs =
    subst (λ e. EndsMeet e self.butler.ends ours theirs) c.parts-input.ensures.ends (subst (λ e. EndsMeet c.parts-input.result.ends e ours theirs) was c.meet_ends.ensures) in
    closing.stocked_still (rings_of self) c.requires.1.1.1.serves.others ours theirs meet g.at.begun.session g.at.served r (subst (λ e. AreStocked r.supplies r.drain e) was c.rest-resting.ensures.stocked)

pub resume-requires-clause-ended : goal.resume-requires-clause-ended
resume-requires-clause-ended g c = let self = c.args.self in let ours = c.meet_ends.new.ours in let theirs = c.meet_ends.new.theirs in let was = c.rest-resting.ensures.ends in
    let meet : EndsMeet (shut_ends self.process.ends) self.butler.ends ours theirs =
    subst (λ e. EndsMeet e self.butler.ends ours theirs) c.parts-input.ensures.ends (subst (λ e. EndsMeet c.parts-input.result.ends e ours theirs) was c.meet_ends.ensures) in
    closing.ended_still (rings_of self) c.requires.1.1.1.serves.others ours theirs meet ∙ sym (ap (λ r. r.ended) c.rest-resting.ensures.rested)

pub meet-requires : goal.meet-requires
meet-requires g c = let self = c.args.self in let ours = c.meet_ends.new.ours in let theirs = c.meet_ends.new.theirs in
    let meet : EndsMeet (shut_ends self.process.ends) self.butler.ends ours theirs =
    subst (λ e. EndsMeet e self.butler.ends ours theirs) c.parts-input.ensures.ends (subst (λ e. EndsMeet c.parts-input.result.ends e ours theirs) c.rest-resting.ensures.ends c.meet_ends.ensures) in
    closing.control_other self c.requires.1.1.1.serves.others c.requires.1.1.1.control ours theirs meet

pub returns-clause-serves : goal.returns-clause-serves
returns-clause-serves g c = let self = c.args.self in let ours = c.meet_ends.new.ours in let theirs = c.meet_ends.new.theirs in let M = g.M.Media.outside in
    let meet : EndsMeet (shut_ends self.process.ends) self.butler.ends ours theirs =
    subst (λ e. EndsMeet e self.butler.ends ours theirs) c.parts-input.ensures.ends (subst (λ e. EndsMeet c.parts-input.result.ends e ours theirs) c.rest-resting.ensures.ends c.meet_ends.ensures) in
    let butler : c.resume.result ≡ record self.butler { ends = theirs } = c.resume.ensures ∙ ap (λ r. resumed r theirs) c.rest-resting.ensures.rested in
    subst (λ b. Serves M g.at (record { edition = self.edition; butler = b; ends = record ours { to_control = c.meet.new.a } })) (sym butler)
    (closing.serves_closed (rings_of self) c.requires.1.1.1.serves.others ours theirs meet M g.at c.meet.new.a c.requires.1.1.1.serves)

pub returns-clause-closes : goal.returns-clause-closes
returns-clause-closes g c = let self = c.args.self in let ours = c.meet_ends.new.ours in let theirs = c.meet_ends.new.theirs in let parts = c.parts-input in
    let meet : EndsMeet (shut_ends self.process.ends) self.butler.ends ours theirs =
    subst (λ e. EndsMeet e self.butler.ends ours theirs) parts.ensures.ends (subst (λ e. EndsMeet parts.result.ends e ours theirs) c.rest-resting.ensures.ends c.meet_ends.ensures) in
    let butler : c.resume.result ≡ record self.butler { ends = theirs } = c.resume.ensures ∙ ap (λ r. resumed r theirs) c.rest-resting.ensures.rested in
    let stopped : Stopped g.row.I.Denot g.row.W.Denot = record { input = parts.result.input; master = parts.result.master; journal = parts.result.journal; acks = c.meet.new.b } in
    let met : Meet ours.to_control self.acks c.meet.new.a c.meet.new.b = record { sender = c.meet.ensures.sender; receiver = c.meet.ensures.receiver; met = c.meet.ensures.met } in
    subst (λ b. Closes self (record { edition = self.edition; butler = b; ends = record ours { to_control = c.meet.new.a } }) stopped) (sym butler)
    (closing.closes self c.requires.1.1.1.serves.others c.requires.1.1.1.control ours theirs meet c.meet.new.a c.meet.new.b met stopped parts.ensures.input parts.ensures.master parts.ensures.journal refl)

pub returns-clause-as_machine : goal.returns-clause-as_machine
returns-clause-as_machine g c = let self = c.args.self in let s = g.at.begun.session in let ours = c.meet_ends.new.ours in let theirs = c.meet_ends.new.theirs in
    let meet : EndsMeet (shut_ends self.process.ends) self.butler.ends ours theirs =
    subst (λ e. EndsMeet e self.butler.ends ours theirs) c.parts-input.ensures.ends (subst (λ e. EndsMeet c.parts-input.result.ends e ours theirs) c.rest-resting.ensures.ends c.meet_ends.ensures) in
    let butler : c.resume.result ≡ record self.butler { ends = theirs } = c.resume.ensures ∙ ap (λ r. resumed r theirs) c.rest-resting.ensures.rested in
    let met : Meet ours.to_control self.acks c.meet.new.a c.meet.new.b = record { sender = c.meet.ensures.sender; receiver = c.meet.ensures.receiver; met = c.meet.ensures.met } in
    subst (λ b. ClosesAsMachine s self (record { edition = self.edition; butler = b; ends = record ours { to_control = c.meet.new.a } })) (sym butler)
    (closing.closed self c.requires.1.1.1.serves.others c.requires.1.1.1.control ours theirs meet c.meet.new.a c.meet.new.b met s)
