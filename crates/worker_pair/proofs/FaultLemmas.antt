-- What stands of a pair whose cycle met a fault, once the ends have met.
use Rattle.std.proofs.Common.{◌≡◌, refl, sym, ap, subst, ◌∙◌}
use Rattle.std.specs.Prelude.{false}
use Rattle.ses_io.specs.Outside.{MediaOutside, SourceOutside, SinkOutside}
use Rattle.input_blocks.specs.Rest.{rest_sound}
use Rattle.piece_item.specs.declared.butler_ends.ButlerEnds.{ButlerEnds}
use Rattle.master_blocks.specs.State.{IsMasterOf}
use Rattle.process_ends.specs.declared.ends.ProcessEnds.{ProcessEnds}
use Rattle.process_cycle.specs.Cycles.{HasStopped}
use Rattle.process_ends.specs.Ends.{AreOtherEnds, EndsMeet}
use Rattle.process_cycle.specs.Captured.{Hears}
use Rattle.process_cycle.specs.ProcessState.{ProcessState, entries_of, sound_of}
use Rattle.process_cycle.specs.Promised.{Promises}
use Rattle.process_cycle.proofs.HearsLemmas.{hears_while_meeting}
use Rattle.process_cycle.proofs.MeetPromiseLemmas.{promises_while_meeting}
use Rattle.worker_pair.specs.declared.pair.Pair.{Pair}
use Rattle.worker_pair.specs.Begun.{At, playing_at}
use Rattle.worker_pair.specs.Never.{NothingIsTaken}
use Rattle.worker_pair.specs.Runs.{HearsInput, Rests, Runs}
use Rattle.worker_pair.specs.Tied.{rings_of}
use Rattle.worker_pair.proofs.MetLemmas.{serves_met}
use Rattle.worker_pair.proofs.NowLemmas.{control_on}
use Rattle.worker_pair.proofs.LeftLemmas.{serves_left}
use Rattle.worker_pair.proofs.EndLemmas.{entered_still}

module _ {V I W : Type 0} (media : MediaOutside V) (inputs : SourceOutside I) (sinks : SinkOutside W) (at : At) (old : Pair V I W) (runs : Runs media inputs sinks at old) (q : ProcessState I W)
    (ours : ProcessEnds) (theirs : ButlerEnds) where
  -- the pair after the meeting
  abbrev pub now : Pair V I W
  now = record {
    edition = old.edition;
    playing = old.playing;
    in_cycle = false;
    butler = record old.butler { ends = theirs };
    process = record q { ends = ours };
    acks = old.acks;
  }

  module _ (stopped : HasStopped old.process q) (meet : EndsMeet q.ends old.butler.ends ours theirs) where
    ends_same : q.ends ≡ old.process.ends
    ends_same = ap (λ (z : ProcessState I W). z.ends) stopped

    -- the ends are those of the same rings
    others_stopped : AreOtherEnds q.ends old.butler.ends
    others_stopped = subst (λ ends. AreOtherEnds ends old.butler.ends) (sym ends_same) runs.serves.others

    -- the workers may rest after it
    pub rests_stopped : IsMasterOf at.begun.session q.master → Rests media at now
    rests_stopped master = record {
      serves = serves_met media at (record { edition = old.edition; butler = old.butler; ends = q.ends }) ours theirs (serves_left media at at.played (rings_of old) q.ends runs.serves others_stopped
          (λ quiet. subst (λ (ends : ProcessEnds). NothingIsTaken ends.takes.items) (sym ends_same) (runs.serves.no_take quiet))) meet;
      entered = entered_still at old now runs.entered refl (ap (λ (z : ProcessState I W). z.entered) stopped);
      control = control_on old now refl (meet.to_control ∙ ap (λ (ends : ProcessEnds). ends.to_control) ends_same) runs.control;
      promises = promises_while_meeting (playing_at at) (entries_of q) q.ends ours old.butler.ends theirs others_stopped meet
          (subst (λ (z : ProcessState I W). Promises (playing_at at) (entries_of z) z.ends) (sym stopped) runs.playing.promises);
      master = master;
      asked = ap (λ (z : ProcessState I W). z.journal.room) stopped ∙ runs.asked;
    }

    -- and what was captured is of one sound still
    pub hears_stopped : q.input.stream ≡ old.process.input.stream → HearsInput inputs at now
    hears_stopped stream = hears_while_meeting inputs.tells (sound_of (playing_at at) q) at.begun.session (entries_of q) q.ends ours old.butler.ends theirs others_stopped meet
        (subst (λ (z : ProcessState I W). Hears inputs.tells (sound_of (playing_at at) z) at.begun.session (entries_of z) z.ends.takes.items) (sym stopped)
        (subst (λ x. Hears inputs.tells (rest_sound x at.begun.start) at.begun.session (entries_of old.process) old.process.ends.takes.items) (sym stream) runs.playing.hears))
