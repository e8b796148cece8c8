-- What the first meeting of all ends gives.
use Rattle.std.proofs.Common.{◌≡◌, refl, sym, subst}
use Rattle.disk_ring.specs.Sender.{Sender}
use Rattle.disk_ring.specs.Receiver.{Receiver}
use Rattle.edition_log.specs.EditionState.{EditionState as Edition}
use Rattle.piece_item.specs.declared.ack.Ack.{Ack}
use Rattle.piece_item.specs.declared.butler_ends.ButlerEnds.{ButlerEnds}
use Rattle.butler.specs.ButlerState.{ButlerState, Rested}
use Rattle.butler.specs.Serving.{AreStocked}
use Rattle.butler.proofs.MeetingLemmas.{meeting_keeps}
use Rattle.process_ends.specs.declared.ends.ProcessEnds.{ProcessEnds}
use Rattle.process_ends.specs.Ends.{AreOtherEnds, EndsMeet, Meet}
use Rattle.process_cycle.specs.declared.process.parts.ProcessParts.{ProcessParts}
use Rattle.worker_pair.proofs.MetLemmas.{are_told}
use Rattle.thread_run.specs.Met.{HaveMetAtLast}

module _ {V I W : Type 0} (edition : Edition) (b : ButlerState V) (process : ProcessParts I W) (others : AreOtherEnds process.ends b.ends) (ours : ProcessEnds) (theirs : ButlerEnds)
    (meet : EndsMeet process.ends b.ends ours theirs) where
  -- the butler's boxes fit them
  pub stocked_still : (r : Rested V) → AreStocked r.supplies r.drain b.ends → AreStocked r.supplies r.drain theirs
  stocked_still r = (meeting_keeps edition.session edition.edits r b.ends theirs (are_told process.ends ours b.ends theirs others meet)).stocked

  pub have_met : (acks acks_now : Receiver Ack) (to_control : Sender Ack) (c : ButlerState V) → c ≡ record b { ends = theirs } → Meet ours.to_control acks to_control acks_now →
      HaveMetAtLast edition b process acks (record { edition = edition; butler = c; ends = record ours { to_control = to_control } })
      (record { input = process.input; master = process.master; journal = process.journal; acks = acks_now })
  have_met acks acks_now to_control c is met = subst (λ z. HaveMetAtLast edition b process acks (record { edition = edition; butler = z; ends = record ours { to_control = to_control } })
      (record { input = process.input; master = process.master; journal = process.journal; acks = acks_now })) (sym is) (record {
        edition_is = refl;
        butler_is = refl;
        met = record {
          plays = meet.plays;
          takes = meet.takes;
          acks = meet.acks;
          to_control = refl;
          plays_room = meet.plays_room;
          takes_room = meet.takes_room;
          sends_room = meet.sends_room;
          flushes_room = meet.flushes_room;
        };
        control = subst (λ (z : Sender Ack). Meet z acks to_control acks_now) meet.to_control met;
        input = refl;
        master = refl;
        journal = refl;
      })
