use Rattle.std.proofs.Common.{subst}
use Rattle.butler.specs.Serving.{AreStocked}
use Rattle.process_ends.specs.Ends.{EndsMeet}
use Rattle.worker_pair.proofs.MetLemmas.{resumes}
use Rattle.thread_run.proofs.MeetLemmas.{have_met, stocked_still}
use Rattle.thread_run.proofs.meeting.meet_at_last.Goals as goal

-- src/meeting.rt
pub resume-requires-clause-stocked : goal.resume-requires-clause-stocked
resume-requires-clause-stocked g c = let b = c.args.butler in let ours = c.meet_ends.new.ours in let theirs = c.meet_ends.new.theirs in let r = c.rest-resting.result.0 in
    stocked_still c.args.edition b c.args.process c.requires.others ours theirs (subst (λ e. EndsMeet c.args.process.ends e ours theirs) c.rest-resting.ensures.ends c.meet_ends.ensures) r
    (subst (AreStocked r.supplies r.drain) c.rest-resting.ensures.ends c.rest-resting.ensures.stocked)

pub returns : goal.returns
returns g c = let b = c.args.butler in let ours = c.meet_ends.new.ours in let theirs = c.meet_ends.new.theirs in
    have_met c.args.edition b c.args.process c.requires.others ours theirs (subst (λ e. EndsMeet c.args.process.ends e ours theirs) c.rest-resting.ensures.ends c.meet_ends.ensures)
    c.args.acks c.meet.new.b c.meet.new.a c.resume.result (resumes b theirs c.rest-resting.result.0 c.resume.result c.resume.ensures c.rest-resting.ensures.rested)
    (record { sender = c.meet.ensures.sender; receiver = c.meet.ensures.receiver; met = c.meet.ensures.met })
