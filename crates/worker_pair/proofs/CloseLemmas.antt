-- The rings that an ended process leaves: its ends that put are closed, and all ends have met.
use Rattle.std.proofs.Common.{◌≡◌, ℕ, ◌<◌, List, [], length, refl, sym, ap, subst, ◌∙◌, arith, append-nil}
use Rattle.std.specs.Prelude.{map, reverse, slice_get, Some}
use Rattle.std.specs.Option.{option_map}
use Rattle.std.proofs.lemmas.List.{get_or-map, length-map}
use Rattle.std.proofs.lemmas.Option.{slice_get_within, slice_get-map, same_Some}
use Rattle.ses_io.specs.Outside.{MediaOutside}
use Rattle.session_model.specs.declared.session.Session.{Session}
use Rattle.session_model.specs.declared.edit.Edit.{Edit}
use Rattle.engine_laws.proofs.ListLemmas.{item_at}
use Rattle.machine_model.specs.Core.{Core}
use Rattle.disk_ring.specs.Sender.{Sender}
use Rattle.disk_ring.specs.Receiver.{Receiver}
use Rattle.piece_item.specs.declared.ack.Ack.{Ack}
use Rattle.piece_item.specs.declared.take_block.TakeBlock.{TakeBlock}
use Rattle.piece_item.specs.declared.butler_ends.ButlerEnds.{ButlerEnds}
use Rattle.piece_item.specs.Views.{ack_of}
use Rattle.butler.specs.ButlerState.{Rested}
use Rattle.butler.specs.Serving.{AreStocked}
use Rattle.butler.proofs.MeetingLemmas.{meeting_keeps}
use Rattle.process_ends.specs.declared.ends.ProcessEnds.{ProcessEnds}
use Rattle.process_ends.specs.Ends.{AreOfOneRing, AreOtherEnds, EndsMeet, MayMeet, Meet, shut, shut_ends}
use Rattle.worker_pair.specs.declared.ending.Ending.{Ending}
use Rattle.worker_pair.specs.declared.ending.Stopped.{Stopped}
use Rattle.worker_pair.specs.declared.pair.Pair.{Pair}
use Rattle.worker_pair.specs.Begun.{At}
use Rattle.worker_pair.specs.Closes.{Closes, ClosesAsMachine}
use Rattle.worker_pair.specs.Met.{HaveMet}
use Rattle.worker_pair.specs.Never.{NothingIsTaken}
use Rattle.worker_pair.specs.Runs.{HasControl, Serves}
use Rattle.worker_pair.specs.Tied.{AreRingsOf, IsTrackOf, IsUntaken, rings_of}
use Rattle.worker_pair.proofs.AgainLemmas.{PutsOn, all_in, all_known, still_in}
use Rattle.worker_pair.proofs.MetLemmas.{are_told, acks_met, rings_met, serves_met, with_ends}

-- ---- closed ends

-- an end that puts, where all were closed
shut_at : {T : Type 0} (xs : List (Sender T)) (t : ℕ) (k : Sender T) → slice_get xs t ≡ Some k → slice_get (map shut xs) t ≡ Some (shut k)
shut_at xs t k here = slice_get-map shut xs t ∙ ap (option_map shut) here

-- and the one that it was
record WasOpen {T : Type 0} (xs : List (Sender T)) (t : ℕ) (l : Sender T) : Type 0 where
  was : Sender T
  there : slice_get xs t ≡ Some was
  is : l ≡ shut was

-- it is there
was_open : {T : Type 0} (xs : List (Sender T)) (t : ℕ) (l : Sender T) → slice_get (map shut xs) t ≡ Some l → WasOpen xs t l
was_open xs t l here = let k = item_at xs t (omega (arith, slice_get_within (map shut xs) t l here, length-map xs shut)) in record {
  was = k.0;
  there = k.1;
  is = same_Some l (shut k.0) (sym here ∙ shut_at xs t k.0 k.1);
}

-- closed ends are of the rings that they were of
still_one_ring : {T : Type 0} (xs : List (Sender T)) (ys : List (Receiver T)) → AreOfOneRing xs ys → AreOfOneRing (map shut xs) ys
still_one_ring xs ys one = record {
  count = one.count ∙ sym (length-map xs shut);
  ring = λ t a b within. let here : t < length xs = omega (arith, within, length-map xs shut) in one.ring t a b here ∙ sym (ap (λ z. z.ring) (get_or-map shut xs t a a here));
}

-- the butler's are the other ends still
pub others_shut : (ours : ProcessEnds) (theirs : ButlerEnds) → AreOtherEnds ours theirs → AreOtherEnds (shut_ends ours) theirs
others_shut ours theirs others = record { plays = others.plays; takes = still_one_ring ours.takes.items theirs.takes.items others.takes; acks = others.acks }

-- a ring that is closed puts on
puts_shut : {T : Type 0} (a c : Sender T) → c ≡ shut a → PutsOn a c
puts_shut a c is = record { depth = ap (λ z. z.depth) is; sent = ([], append-nil a.sent ∙ sym (ap (λ z. z.sent) is)) }

-- so they may meet again
pub may_meet_shut : (ours : ProcessEnds) (theirs : ButlerEnds) → AreOtherEnds ours theirs → HaveMet ours theirs → MayMeet (shut_ends ours) theirs
may_meet_shut ours theirs others met = let xs = ours.takes.items in record {
  others = others_shut ours theirs others;
  plays = all_known theirs.sends.items ours.plays.items met.plays;
  takes = all_in xs (map shut xs) theirs.takes.items met.takes (length-map xs shut) (λ t x y hx hy. puts_shut x y (same_Some y (shut x) (sym hy ∙ shut_at xs t x hx)));
  acks = still_in ours.to_butler (shut ours.to_butler) theirs.acks met.acks (puts_shut ours.to_butler (shut ours.to_butler) refl);
}

-- nothing was captured, closed or not
no_take_shut : (takes : List (Sender TakeBlock)) → NothingIsTaken takes → NothingIsTaken (map shut takes)
no_take_shut takes none t l here = let k = was_open takes t l here in let was = none t k.was k.there in
    record { sent = ap (λ (z : Sender TakeBlock). z.sent) k.is ∙ was.sent; heads = ap (λ (z : Sender TakeBlock). z.heads) k.is ∙ was.heads }

module _ {V : Type 0} where
  -- the process's ends that put are closed
  abbrev shut_off : Ending V → Ending V
  shut_off e = record e { ends = shut_ends e.ends }

  -- the core machine sees no closing
  rings_shut : (s : Session) (c : Core) (e : Ending V) → AreRingsOf s c e → AreRingsOf s c (shut_off e)
  rings_shut s c e was = record {
    edits = was.edits;
    entered = was.entered;
    many = was.many;
    tracks = λ t x d r l f hx hd hr hl hf. let k = was_open e.ends.takes.items t l hl in let a = was.tracks t x d r k.was f hx hd hr k.there hf in
        subst (λ (z : Sender TakeBlock). IsTrackOf x d r z f) (sym k.is)
        (record { sent = a.sent; received = a.received; tails = a.tails; put = a.put; flushed = a.flushed; heads = a.heads; taking = a.taking });
    acks = was.acks;
    taken = was.taken;
    none_read = was.none_read;
    none_written = was.none_written;
  }

  -- ---- the butler takes its ends back

  module _ (e : Ending V) (others : AreOtherEnds e.ends e.butler.ends) (ours : ProcessEnds) (theirs : ButlerEnds) (meet : EndsMeet (shut_ends e.ends) e.butler.ends ours theirs) where
    -- its boxes fit them,
    pub stocked_still : (s : Session) (edits : List Edit) (r : Rested V) → AreStocked r.supplies r.drain e.butler.ends → AreStocked r.supplies r.drain theirs
    stocked_still s edits r = (meeting_keeps s edits r e.butler.ends theirs (are_told (shut_ends e.ends) ours e.butler.ends theirs (others_shut e.ends e.butler.ends others) meet)).stocked

    -- it was answered Closed where it was,
    pub ended_still : theirs.acks.ended ≡ e.butler.ends.acks.ended
    ended_still = ap (λ (z : Receiver Ack). z.ended) (acks_met (shut_ends e.ends) ours e.butler.ends theirs (others_shut e.ends e.butler.ends others) meet)

    -- it serves on,
    pub serves_closed : (media : MediaOutside V) (at : At) (to_control : Sender Ack) → Serves media at e → Serves media at (with_ends e (record ours { to_control = to_control }) theirs)
    serves_closed media at to_control serves = let now = serves_met media at (shut_off e) ours theirs (record {
      edition_of = serves.edition_of;
      served_of = serves.served_of;
      serving = serves.serving;
      others = others_shut e.ends e.butler.ends others;
      never = serves.never;
      no_take = λ quiet. no_take_shut e.ends.takes.items (serves.no_take quiet);
      files = serves.files;
      true_to = serves.true_to;
    }) meet in record {
      edition_of = now.edition_of;
      served_of = now.served_of;
      serving = now.serving;
      others = record { plays = now.others.plays; takes = now.others.takes; acks = now.others.acks };
      met = record { plays = now.met.plays; takes = now.met.takes; acks = now.met.acks };
      never = now.never;
      no_take = now.no_take;
      files = now.files;
      true_to = now.true_to;
    }

    -- and the core machine sees none of it
    closed_rings : (s : Session) (c : Core) (to_control : Sender Ack) → AreRingsOf s c e → AreRingsOf s c (with_ends e (record ours { to_control = to_control }) theirs)
    closed_rings s c to_control was = let now = rings_met s c (shut_off e) ours theirs (others_shut e.ends e.butler.ends others) meet (rings_shut s c e was) in record {
      edits = now.edits;
      entered = now.entered;
      many = now.many;
      tracks = now.tracks;
      acks = now.acks;
      taken = now.taken;
      none_read = now.none_read;
      none_written = now.none_written;
    }

-- ---- the pair

module _ {V I W : Type 0} (p : Pair V I W) (others : AreOtherEnds p.process.ends p.butler.ends) (control : HasControl p) (ours : ProcessEnds) (theirs : ButlerEnds)
    (meet : EndsMeet (shut_ends p.process.ends) p.butler.ends ours theirs) where
  -- control's end is that of the same ring
  pub control_other : p.acks.ring ≡ ours.to_control.ring
  control_other = control.ring ∙ sym (ap (λ (z : Sender Ack). z.ring) meet.to_control)

  module _ (to_control : Sender Ack) (acks : Receiver Ack) (met : Meet ours.to_control p.acks to_control acks) where
    -- the end that was closed meets control's
    control_met : Meet (shut p.process.ends.to_control) p.acks to_control acks
    control_met = subst (λ (z : Sender Ack). Meet z p.acks to_control acks) meet.to_control met

    -- what is left when the process ends
    pub closes : (stopped : Stopped I W) → stopped.input ≡ p.process.input.input → stopped.master ≡ p.process.master.sink → stopped.journal ≡ p.process.journal → stopped.acks ≡ acks →
        Closes p (with_ends (rings_of p) (record ours { to_control = to_control }) theirs) stopped
    closes stopped input master journal is = record {
      edition = refl;
      butler = refl;
      met = record {
        plays = meet.plays;
        takes = meet.takes;
        acks = meet.acks;
        to_control = refl;
        plays_room = meet.plays_room;
        takes_room = meet.takes_room;
        sends_room = meet.sends_room;
        flushes_room = meet.flushes_room;
      };
      control = subst (λ (z : Receiver Ack). Meet (shut p.process.ends.to_control) p.acks to_control z) (sym is) control_met;
      input = input;
      master = master;
      journal = journal;
    }

    -- control took nothing, as the end that puts knows then
    untaken : IsUntaken p.process.ends.to_control
    untaken = let none : length p.acks.received ≡ 0 = ap (λ (l : List Ack). length l) control.none_taken in record {
      heads = λ k d within. omega (arith, control.heads k d within, control_met.met.got, none);
      room = omega (arith, control_met.met.passed.within, none);
    }

    -- so the core machine is where it was
    pub closed : (s : Session) → ClosesAsMachine s p (with_ends (rings_of p) (record ours { to_control = to_control }) theirs)
    closed s c tied = (
      closed_rings (rings_of p) others ours theirs meet s c to_control tied.rings,
      tied.control.sent untaken ∙ sym (ap (λ (z : Sender Ack). reverse (map ack_of z.sent)) control_met.sender),
    )
