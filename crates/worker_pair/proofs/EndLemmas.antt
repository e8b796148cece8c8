-- What stands of a pair whose process has made a cycle, once the ends have met.
use Rattle.std.proofs.Common.{◌≡◌, ◌<◌, ◌≤◌, length, take, refl, sym, ap, subst, arith, ◌∙◌}
use Rattle.std.specs.Prelude.{true, false, All, slice_index_or}
use Rattle.std.proofs.lemmas.Bool.{false≢true}
use Rattle.std.proofs.lemmas.Option.{get_or_from_slice_get, slice_get-get_or, slice_get_within}
use Rattle.ses_io.specs.FixedList.{Listed}
use Rattle.ses_io.specs.Outside.{MediaOutside, SourceOutside, SinkOutside}
use Rattle.session_model.specs.declared.session.Session.{Session}
use Rattle.engine_model.specs.Journal as engine
use Rattle.engine_laws.proofs.ListLemmas.{item_at}
use Rattle.disk_ring.specs.Sender.{Sender}
use Rattle.piece_item.specs.declared.ack.Ack.{Ack}
use Rattle.piece_item.specs.declared.butler_ends.ButlerEnds.{ButlerEnds}
use Rattle.piece_item.specs.declared.take_block.TakeBlock.{TakeBlock}
use Rattle.cycle_journal.specs.declared.entry.Entry.{Entry}
use Rattle.process_ends.specs.declared.ends.ProcessEnds.{ProcessEnds}
use Rattle.process_cycle.specs.Cycles.{MakesEntry, ack_of}
use Rattle.process_ends.specs.Ends.{AllStillMet, AreOfOneRing, AreOtherEnds, EndsMeet, MayMeet}
use Rattle.process_cycle.specs.Playing.{IsPlaying}
use Rattle.process_cycle.specs.Promised.{IsMastered}
use Rattle.process_cycle.specs.ProcessState.{ProcessState}
use Rattle.worker_pair.specs.declared.pair.Pair.{Pair}
use Rattle.worker_pair.specs.Begun.{At, playing_at}
use Rattle.worker_pair.specs.Never.{NothingIsTaken}
use Rattle.worker_pair.specs.Plays.{MayCycle}
use Rattle.worker_pair.specs.Runs.{HasEntered, Runs}
use Rattle.worker_pair.specs.Tied.{rings_of}
use Rattle.worker_pair.proofs.AgainLemmas.{ack_puts, all_in, all_known, capture_puts, still_in}
use Rattle.worker_pair.proofs.MetLemmas.{serves_met}
use Rattle.worker_pair.proofs.LeftLemmas.{serves_left}
use Rattle.worker_pair.proofs.LongerLemmas.{edition_longer}
use Rattle.worker_pair.proofs.CaptureLemmas.{capture_on}
use Rattle.worker_pair.proofs.CycleLemmas as cycles
use Rattle.worker_pair.proofs.CycleLemmas.{edition_is, takes_stand}
use Rattle.worker_pair.proofs.AckLemmas.{acks_on, heads_told}

-- what the process has entered stands where no cycle is open any more
pub entered_still : {V I W : Type 0} (at : At) (old new : Pair V I W) → HasEntered at old → new ≡ record old { butler = new.butler; process = new.process; in_cycle = false } →
    new.process.entered ≡ old.process.entered → HasEntered at new
entered_still at old new was same given = subst (HasEntered at) (sym same) (record {
  edition_of = was.edition_of;
  begins = was.begins;
  not_ended = was.not_ended;
  newest_not_ended = was.newest_not_ended;
  forms = was.forms;
  room = λ open_now. absurd (false≢true open_now);
  unended = λ open_now. absurd (false≢true open_now);
  few = omega (arith, given, was.few);
  played = was.played ∙ ap (λ n. take n old.edition.edits) (sym given);
})

module _ {V I W : Type 0} (media : MediaOutside V) (inputs : SourceOutside I) (sinks : SinkOutside W) (at : At) (old : Pair V I W) (may : MayCycle media inputs sinks at old) (q : ProcessState I W)
    (m : MakesEntry at.begun.session old.playing old.process q) where
  abbrev s : Session
  s = at.begun.session

  abbrev p : ProcessState I W
  p = old.process

  abbrev pub made : engine.Entry
  made = cycles.entry_made s old.playing p q m

  -- where nothing is to be recorded, its edition doesn't
  never : at.begun.records ≡ false → (cycles.now s old.playing p q m).transport.recording ≡ false
  never quiet = ap (λ e. e.transport.recording) (sym (edition_longer old.playing.edits old.edition.edits may.runs.entered.begins s made.edition low)) ∙ may.runs.serves.never quiet made.edition
    where
      low : made.edition ≤ length old.playing.edits
      low = omega (arith, edition_is s old.playing p q m)

  -- nothing was received
  pub plays_same : q.ends.plays ≡ p.ends.plays
  plays_same = ap (λ (z : ProcessState I W). z.ends.plays) m.same

  -- the capture rings are the same
  takes_others : AreOfOneRing q.ends.takes.items old.butler.ends.takes.items
  takes_others = let was = may.runs.serves.others.takes in record {
    count = was.count ∙ sym m.rings;
    ring = λ t a b within. let here : t < length p.ends.takes.items = omega (arith, within, m.rings) in
        let k = item_at p.ends.takes.items t here in let note = item_at m.made.notes.items t (omega (arith, here, m.notes)) in
        was.ring t k.0 b here ∙ ap (λ (z : Sender TakeBlock). z.ring) (get_or_from_slice_get p.ends.takes.items t k.0 k.0 k.1)
        ∙ sym (capture_on s t q.input.stream.form.channels q.input.samples note.0.take k.0 (slice_index_or q.ends.takes.items t a)
        (m.captured t k.0 (slice_index_or q.ends.takes.items t a) note.0 k.1 (slice_get-get_or q.ends.takes.items t a within) note.1));
  }

  -- so are all rings
  pub others_cycled : AreOtherEnds q.ends old.butler.ends
  others_cycled = let was = may.runs.serves.others in record {
    plays = subst (λ l. AreOfOneRing old.butler.ends.sends.items l.items) (sym plays_same) was.plays;
    takes = takes_others;
    acks = was.acks ∙ sym (acks_on (ack_of q m.made) p.ends.to_butler q.ends.to_butler m.to_butler);
  }

  -- and may meet again
  pub may_meet_cycled : MayMeet q.ends old.butler.ends
  may_meet_cycled = let met = may.runs.serves.met in record {
    others = others_cycled;
    plays = subst (λ l. AllStillMet old.butler.ends.sends.items l.items) (sym plays_same) (all_known old.butler.ends.sends.items p.ends.plays.items met.plays);
    takes = all_in p.ends.takes.items q.ends.takes.items old.butler.ends.takes.items met.takes m.rings
        (λ t k l hk hl. let note = item_at m.made.notes.items t (omega (arith, slice_get_within p.ends.takes.items t k hk, m.notes)) in
        capture_puts s t q.input.stream.form.channels q.input.samples note.0.take k l (m.captured t k l note.0 hk hl note.1));
    acks = still_in p.ends.to_butler q.ends.to_butler old.butler.ends.acks met.acks (ack_puts (ack_of q m.made) p.ends.to_butler q.ends.to_butler m.to_butler);
  }

  module _ (ours : ProcessEnds) (theirs : ButlerEnds) (meet : EndsMeet q.ends old.butler.ends ours theirs) where
    -- the pair after the meeting
    abbrev pub after_cycle : Pair V I W
    after_cycle = record {
      edition = old.edition;
      playing = old.playing;
      in_cycle = false;
      butler = record old.butler { ends = theirs };
      process = record q { ends = ours };
      acks = old.acks;
    }

    -- the workers run on
    pub runs_cycled : IsPlaying inputs (playing_at at) (record q { ends = ours }) → (at.header ≡ true → IsMastered sinks (playing_at at) (record q { ends = ours })) → Runs media inputs sinks at after_cycle
    runs_cycled playing mastered = record {
      serves = serves_met media at (record { edition = old.edition; butler = old.butler; ends = q.ends }) ours theirs (serves_left media at at.played (rings_of old) q.ends may.runs.serves others_cycled
          (λ quiet. subst (λ l. NothingIsTaken l.items) (sym (takes_stand s old.playing p q m (never quiet))) (may.runs.serves.no_take quiet))) meet;
      entered = entered_still at old after_cycle may.runs.entered refl (ap (λ (z : ProcessState I W). z.entered) m.same);
      control = record {
        ring = may.runs.control.ring ∙ sym (acks_on (ack_of q m.made) p.ends.to_control q.ends.to_control m.to_control) ∙ ap (λ z. z.ring) (sym meet.to_control);
        none_taken = may.runs.control.none_taken;
        heads = subst (λ (z : Sender Ack). All (λ h. h ≤ z.got) z.heads) (sym meet.to_control)
            (heads_told (ack_of q m.made) p.ends.to_control q.ends.to_control m.to_control may.runs.control.heads);
      };
      playing = playing;
      mastered = mastered;
      asked = ap (λ (j : Listed Entry). j.room) m.noted ∙ may.runs.asked;
    }
