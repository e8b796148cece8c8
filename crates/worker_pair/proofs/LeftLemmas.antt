-- What stands of a pair whose process has looked at each track, once the ends have met.
use Rattle.std.proofs.Common.{◌≡◌, ℕ, ◌<◌, List, length, drop, take, refl, sym, ap, subst, arith, ◌∙◌}
use Rattle.std.proofs.Math.Seq.{take-append_seam}
use Rattle.std.specs.Prelude.{true, false, slice_get, slice_index_or, Some}
use Rattle.std.proofs.lemmas.List.{take-append-drop, take-append-le}
use Rattle.std.proofs.lemmas.Option.{get_or_from_slice_get, slice_get_within}
use mathlib.Core.List.{IsPrefix}
use Rattle.ses_io.specs.Outside.{MediaOutside, SourceOutside, SinkOutside}
use Rattle.session_model.specs.declared.edit.Edit.{Edit}
use Rattle.engine_laws.proofs.ListLemmas.{item_at}
use Rattle.machine_model.specs.Core.{Core}
use Rattle.machine_model.specs.Events.{after, have_looked}
use Rattle.machine_model.specs.Letters.{gather_moves}
use Rattle.machine_laws.proofs.LookLemmas.{AllWithin, gather_done}
use Rattle.machine_laws.proofs.Tracks.{also_there}
use Rattle.disk_ring.specs.Sender.{Sender}
use Rattle.disk_ring.specs.Receiver.{Receiver, GoesOnOut}
use Rattle.piece_item.specs.declared.butler_ends.ButlerEnds.{ButlerEnds}
use Rattle.piece_item.specs.declared.item.Item.{Item}
use Rattle.process_ends.specs.declared.ends.ProcessEnds.{ProcessEnds}
use Rattle.process_ends.specs.Ends.{AllMeet, AreOfOneRing, AreOtherEnds, EndsMeet, MayMeetPlays, Meet}
use Rattle.process_cycle.specs.Looked.{Keeps, LooksAtAll}
use Rattle.process_cycle.specs.Playing.{IsPlaying}
use Rattle.process_cycle.specs.Promised.{IsMastered}
use Rattle.process_cycle.specs.ProcessState.{ProcessState, entries_of}
use Rattle.worker_pair.specs.declared.ending.Ending.{Ending}
use Rattle.worker_pair.specs.declared.pair.Pair.{Pair}
use Rattle.worker_pair.specs.Begun.{At, looked, playing_at}
use Rattle.worker_pair.specs.Never.{NothingIsTaken}
use Rattle.worker_pair.specs.Plays.{Looks}
use Rattle.worker_pair.specs.Runs.{HasEntered, Runs, Serves}
use Rattle.worker_pair.specs.Tied.{IsControlRing, IsTied, rings_of}
use Rattle.worker_pair.proofs.AgainLemmas.{all_meet_known, all_out, meet_known}
use Rattle.worker_pair.specs.Apart.{ServesApart}
use Rattle.worker_pair.proofs.MetLemmas.{meet_at, rings_met, serves_met}
use Rattle.worker_pair.proofs.NowLemmas.{control_on}
use Rattle.worker_pair.proofs.GatherLemmas.{look_ups_are_over, looked_core, rings_looked, track_within}

-- a butler that serves goes on to, whatever its process did to its own ends
pub serves_left : {V : Type 0} (media : MediaOutside V) (at : At) (played : List Edit) (e : Ending V) (ends : ProcessEnds) → Serves media at e → AreOtherEnds ends e.butler.ends →
    (at.begun.records ≡ false → NothingIsTaken ends.takes.items) → ServesApart media (looked played at) (record { edition = e.edition; butler = e.butler; ends = ends })
serves_left media at played e ends was others no_take = record {
  edition_of = was.edition_of;
  never = was.never;
  served_of = was.served_of;
  serving = was.serving;
  others = others;
  no_take = no_take;
  files = was.files;
  true_to = was.true_to;
}

-- the edits in which the process looked last are the first of those that it entered
pub played_first : {V I W : Type 0} (at : At) (p : Pair V I W) → HasEntered at p → IsPrefix at.played p.playing.edits
played_first at p was = subst (λ l. IsPrefix l p.playing.edits) (sym (was.played ∙ ap (take p.process.entered) (sym was.begins.1) ∙ take-append-le p.process.entered p.playing.edits was.begins.0 was.few))
    (drop p.process.entered p.playing.edits, take-append-drop p.process.entered p.playing.edits)

-- ---- a look

module _ {V I W : Type 0} (media : MediaOutside V) (inputs : SourceOutside I) (sinks : SinkOutside W) (at : At) (old : Pair V I W) (runs : Runs media inputs sinks at old) (q : ProcessState I W)
    (keeps : Keeps old.process q) (looks : LooksAtAll old.playing old.process q) (now : IsPlaying inputs (playing_at (looked old.playing.edits at)) q) where
  -- its ends are those of the same rings
  plays_same : AreOfOneRing old.butler.ends.sends.items q.ends.plays.items
  plays_same = let was = runs.serves.others.plays in record {
    count = looks.many ∙ was.count;
    ring = λ t a b within. let here : t < length old.process.ends.plays.items = omega (arith, within, was.count) in
        let d = item_at old.process.playbacks t (omega (arith, here, runs.playing.plays, runs.playing.playbacks)) in (looks.looks t b d.0 here).ring.ring ∙ was.ring t a b within;
  }

  -- so are all its ends
  pub others_looked : AreOtherEnds q.ends old.butler.ends
  others_looked = record {
    plays = plays_same;
    takes = subst (λ (z : ProcessState I W). AreOfOneRing z.ends.takes.items old.butler.ends.takes.items) (sym keeps.same) runs.serves.others.takes;
    acks = runs.serves.others.acks ∙ ap (λ (z : ProcessState I W). z.ends.to_butler.ring) (sym keeps.same);
  }

  -- what a look does to the end of a track
  looked_on : (t : ℕ) (x y : Receiver Item) → slice_get old.process.ends.plays.items t ≡ Some x → slice_get q.ends.plays.items t ≡ Some y → GoesOnOut x y
  looked_on t x y hx hy = let here = slice_get_within old.process.ends.plays.items t x hx in let d = item_at old.process.playbacks t (omega (arith, here, runs.playing.plays, runs.playing.playbacks)) in
      subst (λ z. GoesOnOut z y) (get_or_from_slice_get old.process.ends.plays.items t x x hx)
      (subst (GoesOnOut (slice_index_or old.process.ends.plays.items t x)) (get_or_from_slice_get q.ends.plays.items t y x hy) (looks.looks t x d.0 here).ring)

  -- and all ends may meet again
  pub may_meet_looked : MayMeetPlays q.ends old.butler.ends
  may_meet_looked = let met = runs.serves.met in record {
    others = others_looked;
    plays = all_out old.butler.ends.sends.items old.process.ends.plays.items q.ends.plays.items met.plays looks.many looked_on;
    takes = subst (λ (z : ProcessState I W). AllMeet z.ends.takes.items old.butler.ends.takes.items z.ends.takes.items old.butler.ends.takes.items) (sym keeps.same)
        (all_meet_known old.process.ends.takes.items old.butler.ends.takes.items met.takes runs.serves.others.takes.count);
    acks = subst (λ (z : ProcessState I W). Meet z.ends.to_butler old.butler.ends.acks z.ends.to_butler old.butler.ends.acks) (sym keeps.same) (meet_known old.process.ends.to_butler old.butler.ends.acks met.acks);
  }

  module _ (ours : ProcessEnds) (theirs : ButlerEnds) (meet : EndsMeet q.ends old.butler.ends ours theirs) where
    -- the pair after the meeting
    abbrev pub after_look : Pair V I W
    after_look = record {
      edition = old.edition;
      playing = old.playing;
      in_cycle = old.in_cycle;
      butler = record old.butler { ends = theirs };
      process = record q { ends = ours };
      acks = old.acks;
    }

    -- it is made of its parts
    pub whole : (new : Pair V I W) → new ≡ record after_look { butler = new.butler; process = new.process } → new.butler ≡ record old.butler { ends = theirs } →
        new.process ≡ record q { ends = ours } → new ≡ after_look
    whole new same butler process = same ∙ (λ i. record after_look { butler = butler i; process = process i })

    -- the ring to control is as it was
    control_same : ours.to_control ≡ old.process.ends.to_control
    control_same = meet.to_control ∙ ap (λ (z : ProcessState I W). z.ends.to_control) keeps.same

    -- the workers run on, and have looked in the edition that the process entered
    pub runs_looked : IsPlaying inputs (playing_at (looked old.playing.edits at)) (record q { ends = ours }) →
        (at.header ≡ true → IsMastered sinks (playing_at (looked old.playing.edits at)) (record q { ends = ours })) → Runs media inputs sinks (looked old.playing.edits at) after_look
    runs_looked playing mastered = record {
      serves = serves_met media (looked old.playing.edits at) (record { edition = old.edition; butler = old.butler; ends = q.ends }) ours theirs
          (serves_left media at old.playing.edits (rings_of old) q.ends runs.serves others_looked
          (λ never. subst (λ (z : ProcessState I W). NothingIsTaken z.ends.takes.items) (sym keeps.same) (runs.serves.no_take never))) meet;
      entered = let was = runs.entered in record {
        edition_of = was.edition_of;
        begins = was.begins;
        not_ended = was.not_ended;
        newest_not_ended = was.newest_not_ended;
        forms = was.forms;
        room = λ open_now. subst (λ (z : ProcessState I W). length z.journal.items < z.journal.room) (sym keeps.same) (was.room open_now);
        unended = was.unended;
        few = omega (arith, looks.entered);
        played = sym (ap (λ n. take n old.edition.edits) looks.entered ∙ ap (take (length old.playing.edits)) (sym was.begins.1) ∙ take-append_seam old.playing.edits was.begins.0);
      };
      control = control_on old after_look refl control_same runs.control;
      playing = playing;
      mastered = mastered;
      asked = ap (λ (z : ProcessState I W). z.journal.room) keeps.same ∙ runs.asked;
    }

    -- it was the process's look, and the meeting
    pub looks_so : Looks old after_look
    looks_so = record { process = q; looks = looks; keeps = keeps; met = record { ends = meet; butler = refl; process_is = refl }; same = refl }

    -- ---- the core machine

    module _ (c : Core) (tied : IsTied at.begun.session c old) (in_cycle : old.in_cycle ≡ true) where
      open_now : c.in_cycle ≡ true
      open_now = tied.in_cycle ∙ in_cycle

      -- of no track more was received than sent
      within : AllWithin c.tracks
      within t x at_x = let s = at.begun.session in let d = also_there c.tracks old.butler.ends.sends.items t x (tied.rings.many ∙ sym runs.serves.serving.sends) at_x in
          let r = also_there c.tracks old.process.ends.plays.items t x (tied.rings.many ∙ sym runs.playing.plays) at_x in
          let k = also_there c.tracks old.process.ends.takes.items t x (tied.rings.many ∙ sym runs.playing.takes) at_x in
          let f = also_there c.tracks old.butler.ends.takes.items t x (tied.rings.many ∙ sym runs.serves.serving.takes) at_x in
          track_within s c x d.0 r.0 r.0 k.0 f.0 (tied.rings.tracks t x d.0 r.0 k.0 f.0 at_x d.1 r.1 k.1 f.1) (runs.serves.met.plays t d.0 r.0 d.1 r.1)

      -- what the process received is of what was sent
      received : (t : ℕ) (d : Sender Item) (r : Receiver Item) → slice_get old.butler.ends.sends.items t ≡ Some d → slice_get q.ends.plays.items t ≡ Some r → IsPrefix r.received d.sent
      received t d r at_d at_r = let f = also_there old.butler.ends.sends.items theirs.sends.items t d (sym meet.plays.senders) at_d in
          let z = also_there q.ends.plays.items ours.plays.items t r (sym meet.plays.receivers) at_r in
          (meet_at old.butler.ends.sends.items q.ends.plays.items theirs.sends.items ours.plays.items plays_same meet.plays t d f.0 r z.0 at_d at_r f.1 z.1).met.passed.begins

      -- the pair is in the state after the look-ups
      tied_looked : IsTied at.begun.session (looked_core at.begun.session c) after_look
      tied_looked = record {
        rings = rings_met at.begun.session (looked_core at.begun.session c) (record { edition = old.edition; butler = old.butler; ends = q.ends }) ours theirs others_looked meet
            (rings_looked inputs (playing_at at) c old.edition old.playing runs.entered.begins old.butler old.process q runs.playing now keeps looks tied.rings.edits tied.entries tied.playing
            tied.rings runs.serves.met.plays received);
        entries = tied.entries ∙ ap entries_of (sym keeps.same);
        playing = tied.playing;
        in_cycle = tied.in_cycle;
        control = subst (IsControlRing c.to_control) (sym control_same) tied.control;
        told_butler = tied.told_butler;
        told_control = tied.told_control;
      }

      -- **A look is the look-ups of the core machine.**
      pub looks_as_machine : let d = after at.begun.session old.butler.cycles c (gather_moves at.begun.session old.butler.cycles c) in
          IsTied at.begun.session d after_look × (have_looked at.begun.session d ≡ true)
      looks_as_machine = subst (λ d. IsTied at.begun.session d after_look × (have_looked at.begun.session d ≡ true))
          (sym (gather_done at.begun.session old.butler.cycles c open_now within)) (tied_looked, look_ups_are_over at.begun.session old.butler.cycles c open_now within)
