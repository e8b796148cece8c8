-- What a meeting of all ends gives: each knows all that the other did, and else all is as it was.
use Rattle.std.proofs.Common.{◌≡◌, ℕ, ◌<◌, List, length, get_or, refl, sym, ap, subst, ◌∙◌, arith}
use Rattle.std.specs.Prelude.{map, reverse, slice_get, Some}
use Rattle.std.proofs.lemmas.Option.{slice_get_within, get_or_from_slice_get}
use Rattle.ses_io.specs.Outside.{MediaOutside}
use Rattle.session_model.specs.declared.session.Session.{Session}
use Rattle.machine_model.specs.Core.{Core}
use Rattle.machine_laws.proofs.Tracks.{also_there}
use Rattle.disk_ring.specs.Sender.{Sender}
use Rattle.disk_ring.specs.Receiver.{Receiver}
use Rattle.piece_item.specs.declared.ack.Ack.{Ack}
use Rattle.piece_item.specs.declared.item.Item.{Item}
use Rattle.piece_item.specs.declared.take_block.TakeBlock.{TakeBlock}
use Rattle.piece_item.specs.declared.butler_ends.ButlerEnds.{ButlerEnds}
use Rattle.piece_item.specs.Views.{ack_of}
use Rattle.ring_meeting.specs.Told.{AreTold}
use Rattle.read_ahead.specs.Items.{kinds}
use Rattle.butler.specs.ButlerState.{ButlerState, Rested, rested, resumed}
use Rattle.butler.specs.Laws.{IsKeptBy}
use Rattle.butler.proofs.MeetingLemmas.{meeting_keeps}
use Rattle.process_ends.specs.declared.ends.ProcessEnds.{ProcessEnds}
use Rattle.process_ends.specs.Ends.{AreOfOneRing, Meet, AllMeet, AreOtherEnds, EndsMeet}
use Rattle.worker_pair.specs.declared.ending.Ending.{Ending}
use Rattle.worker_pair.specs.Apart.{ServesApart}
use Rattle.worker_pair.specs.Begun.{At}
use Rattle.worker_pair.specs.Met.{KnowEachOther, AllKnow, HaveMet}
use Rattle.worker_pair.specs.Never.{NothingIsTaken}
use Rattle.worker_pair.specs.Runs.{Serves}
use Rattle.worker_pair.specs.Takes.{FilesStand, run_of}
use Rattle.worker_pair.specs.Tied.{captured_of, AreRingsOf}

-- two ends that met know all of each other
pub know : {T : Type 0} (x f : Sender T) (y q : Receiver T) → Meet x y f q → KnowEachOther f q
know x f y q m = subst (λ z. KnowEachOther z q) (sym m.sender) (subst (λ z. KnowEachOther (record x { got = length y.received }) z) (sym m.receiver)
    (record { got = refl; heard = refl; over = refl; depth = m.met.depth; passed = m.met.passed }))

-- an end that puts got to know how many were received
pub sender_told : {T : Type 0} (x f : Sender T) (y q : Receiver T) → Meet x y f q → f ≡ record x { got = f.got }
sender_told {T} x f y q m = m.sender ∙ ap (λ n. record x { got = n }) (sym (ap (λ (z : Sender T). z.got) m.sender))

-- an end that takes was told what was sent
pub receiver_told : {T : Type 0} (x f : Sender T) (y q : Receiver T) → Meet x y f q → q ≡ record y { heard = q.heard; over = q.over }
receiver_told {T} x f y q m = m.receiver ∙ ap (λ l. record y { heard = l; over = x.closed }) (sym (ap (λ (z : Receiver T). z.heard) m.receiver))
    ∙ ap (λ o. record y { heard = q.heard; over = o }) (sym (ap (λ (z : Receiver T). z.over) m.receiver))

-- ---- pairs of ends

module _ {T : Type 0} (a : List (Sender T)) (b : List (Receiver T)) (c : List (Sender T)) (d : List (Receiver T)) (one : AreOfOneRing a b) (meet : AllMeet a b c d) where
  -- the ends of a ring that were and that are
  pub meet_at : (t : ℕ) (x f : Sender T) (y q : Receiver T) → slice_get a t ≡ Some x → slice_get b t ≡ Some y → slice_get c t ≡ Some f → slice_get d t ≡ Some q → Meet x y f q
  meet_at t x f y q hx hy hf hq = subst (λ (z : Sender T). Meet z y f q) (get_or_from_slice_get a t x x hx)
      (subst (λ (z : Receiver T). Meet (get_or a t x) z f q) (get_or_from_slice_get b t y y hy)
      (subst (λ (z : Sender T). Meet (get_or a t x) (get_or b t y) z q) (get_or_from_slice_get c t f x hf)
      (subst (λ (z : Receiver T). Meet (get_or a t x) (get_or b t y) (get_or c t x) z) (get_or_from_slice_get d t q y hq)
      (meet.each t x y (slice_get_within a t x hx)))))

  -- of the ends of a ring that were: an end that puts was told,
  pub told_at : (t : ℕ) (x f : Sender T) → slice_get a t ≡ Some x → slice_get c t ≡ Some f → f ≡ record x { got = f.got }
  told_at t x f hx hf = let y = also_there a b t x (sym one.count) hx in let q = also_there b d t y.0 (sym meet.receivers) y.1 in
      sender_told x f y.0 q.0 (meet_at t x f y.0 q.0 hx y.1 hf q.1)

  -- and one that takes heard
  pub heard_at : (t : ℕ) (y q : Receiver T) → slice_get b t ≡ Some y → slice_get d t ≡ Some q → q ≡ record y { heard = q.heard; over = q.over }
  heard_at t y q hy hq = let x = also_there b a t y one.count hy in let f = also_there a c t x.0 (sym meet.senders) x.1 in
      receiver_told x.0 f.0 y q (meet_at t x.0 f.0 y q x.1 hy f.1 hq)

  pub all_know : AllKnow c d
  all_know t f q hf hq = let x = also_there c a t f meet.senders hf in let y = also_there d b t q meet.receivers hq in
      know x.0 f y.0 q (meet_at t x.0 f y.0 q x.1 y.1 hf hq)

  -- and the ends are of the same rings still
  still_one_ring : AreOfOneRing c d
  still_one_ring = record {
    count = meet.receivers ∙ one.count ∙ sym meet.senders;
    ring = λ t x y within. let here : t < length a = omega (arith, within, meet.senders) in let m = meet.each t x y here in
        ap (λ (r : Receiver T). r.ring) m.receiver ∙ one.ring t x y here ∙ sym (ap (λ (s : Sender T). s.ring) m.sender);
  }

-- ---- all ends

module _ (ours ours_now : ProcessEnds) (theirs theirs_now : ButlerEnds) (others : AreOtherEnds ours theirs) (meet : EndsMeet ours theirs ours_now theirs_now) where
  pub others_met : AreOtherEnds ours_now theirs_now
  others_met = record {
    plays = still_one_ring theirs.sends.items ours.plays.items theirs_now.sends.items ours_now.plays.items others.plays meet.plays;
    takes = still_one_ring ours.takes.items theirs.takes.items ours_now.takes.items theirs_now.takes.items others.takes meet.takes;
    acks = ap (λ (r : Receiver Ack). r.ring) meet.acks.receiver ∙ others.acks ∙ sym (ap (λ (r : Sender Ack). r.ring) meet.acks.sender);
  }

  pub have_met : HaveMet ours_now theirs_now
  have_met = record {
    plays = all_know theirs.sends.items ours.plays.items theirs_now.sends.items ours_now.plays.items others.plays meet.plays;
    takes = all_know ours.takes.items theirs.takes.items ours_now.takes.items theirs_now.takes.items others.takes meet.takes;
    acks = know ours.to_butler ours_now.to_butler theirs.acks theirs_now.acks meet.acks;
  }

  -- of a track: what was sent and received stays
  pub send_met : (t : ℕ) (d f : Sender Item) → slice_get theirs.sends.items t ≡ Some d → slice_get theirs_now.sends.items t ≡ Some f → f ≡ record d { got = f.got }
  send_met = told_at theirs.sends.items ours.plays.items theirs_now.sends.items ours_now.plays.items others.plays meet.plays

  pub play_met : (t : ℕ) (r q : Receiver Item) → slice_get ours.plays.items t ≡ Some r → slice_get ours_now.plays.items t ≡ Some q → q ≡ record r { heard = q.heard; over = q.over }
  play_met = heard_at theirs.sends.items ours.plays.items theirs_now.sends.items ours_now.plays.items others.plays meet.plays

  pub take_met : (t : ℕ) (k l : Sender TakeBlock) → slice_get ours.takes.items t ≡ Some k → slice_get ours_now.takes.items t ≡ Some l → l ≡ record k { got = l.got }
  take_met = told_at ours.takes.items theirs.takes.items ours_now.takes.items theirs_now.takes.items others.takes meet.takes

  pub flush_met : (t : ℕ) (c b : Receiver TakeBlock) → slice_get theirs.takes.items t ≡ Some c → slice_get theirs_now.takes.items t ≡ Some b → b ≡ record c { heard = b.heard; over = b.over }
  flush_met = heard_at ours.takes.items theirs.takes.items ours_now.takes.items theirs_now.takes.items others.takes meet.takes

  pub acks_met : theirs_now.acks ≡ record theirs.acks { heard = theirs_now.acks.heard; over = theirs_now.acks.over }
  acks_met = receiver_told ours.to_butler ours_now.to_butler theirs.acks theirs_now.acks meet.acks

  -- the butler's ends were told, and nothing else
  pub are_told : AreTold theirs theirs_now
  are_told = record { many = meet.plays.senders; sends = send_met; captures = meet.takes.receivers; takes = flush_met; acks = acks_met }

  -- nothing is captured in a meeting
  pub no_take_met : NothingIsTaken ours.takes.items → NothingIsTaken ours_now.takes.items
  no_take_met none t l hl = let k = also_there ours_now.takes.items ours.takes.items t l meet.takes.senders hl in let was = none t k.0 k.1 in let same = take_met t k.0 l k.1 hl in record {
    sent = ap (λ (z : Sender TakeBlock). z.sent) same ∙ was.sent;
    heads = ap (λ (z : Sender TakeBlock). z.heads) same ∙ was.heads;
  }

-- ---- the butler and the ends

module _ {V : Type 0} where
  -- the ends are these now
  abbrev pub with_ends : Ending V → ProcessEnds → ButlerEnds → Ending V
  with_ends e ours theirs = record { edition = e.edition; butler = record e.butler { ends = theirs }; ends = ours }

  -- the butler that was given its ends back
  pub resumes : (b : ButlerState V) (theirs : ButlerEnds) (r : Rested V) (c : ButlerState V) → c ≡ resumed r theirs → r ≡ rested b → c ≡ record b { ends = theirs }
  resumes b theirs r c back out = back ∙ ap (λ z. resumed z theirs) out

  -- what a butler keeps in a meeting
  pub kept_met : (s : Session) (at : At) (e : Ending V) (ours : ProcessEnds) (theirs : ButlerEnds) → AreOtherEnds e.ends e.butler.ends → EndsMeet e.ends e.butler.ends ours theirs →
      IsKeptBy s at.served (rested e.butler) e.butler.ends theirs
  kept_met s at e ours theirs others meet = meeting_keeps s at.served (rested e.butler) e.butler.ends theirs (are_told e.ends ours e.butler.ends theirs others meet)

  -- the files stand in a meeting
  pub files_met : (media : MediaOutside V) (at : At) (e : Ending V) (ours : ProcessEnds) (theirs : ButlerEnds) → AreOtherEnds e.ends e.butler.ends → EndsMeet e.ends e.butler.ends ours theirs →
      FilesStand media at.begun e.butler → FilesStand media at.begun (record e.butler { ends = theirs })
  files_met media at e ours theirs others meet was = let kept = kept_met at.begun.session at e ours theirs others meet in record {
    others = was.others;
    same = was.same;
    unwritten = was.unwritten;
    may_record = was.may_record;
    takes = λ records tells. let held = was.takes records tells in record {
      flushed = kept.takes (run_of at.begun) (media.files e.butler.media) held.flushed;
      none_failed = held.none_failed;
      many = held.many;
    };
  }

  -- after a meeting it serves
  pub serves_met : (media : MediaOutside V) (at : At) (e : Ending V) (ours : ProcessEnds) (theirs : ButlerEnds) → ServesApart media at e → EndsMeet e.ends e.butler.ends ours theirs →
      Serves media at (with_ends e ours theirs)
  serves_met media at e ours theirs apart meet = let kept = kept_met at.begun.session at e ours theirs apart.others meet in record {
    edition_of = apart.edition_of;
    served_of = apart.served_of;
    serving = kept.serving apart.serving;
    others = others_met e.ends ours e.butler.ends theirs apart.others meet;
    met = have_met e.ends ours e.butler.ends theirs apart.others meet;
    never = apart.never;
    no_take = λ quiet. no_take_met e.ends ours e.butler.ends theirs apart.others meet (apart.no_take quiet);
    files = files_met media at e ours theirs apart.others meet apart.files;
    true_to = λ tells. kept.true_to at.begun.files (apart.true_to tells);
  }

  -- the core machine sees no meeting
  pub rings_met : (s : Session) (c : Core) (e : Ending V) (ours : ProcessEnds) (theirs : ButlerEnds) → AreOtherEnds e.ends e.butler.ends → EndsMeet e.ends e.butler.ends ours theirs →
      AreRingsOf s c e → AreRingsOf s c (with_ends e ours theirs)
  rings_met s c e ours theirs others meet was = record {
    edits = was.edits;
    entered = was.entered;
    many = was.many;
    tracks = λ t x d r k f hx hd hr hk hf. let d' = also_there theirs.sends.items e.butler.ends.sends.items t d meet.plays.senders hd in
        let r' = also_there ours.plays.items e.ends.plays.items t r meet.plays.receivers hr in
        let k' = also_there ours.takes.items e.ends.takes.items t k meet.takes.senders hk in
        let f' = also_there theirs.takes.items e.butler.ends.takes.items t f meet.takes.receivers hf in
        let a = was.tracks t x d'.0 r'.0 k'.0 f'.0 hx d'.1 r'.1 k'.1 f'.1 in
        let d_is = send_met e.ends ours e.butler.ends theirs others meet t d'.0 d d'.1 hd in
        let r_is = play_met e.ends ours e.butler.ends theirs others meet t r'.0 r r'.1 hr in
        let k_is = take_met e.ends ours e.butler.ends theirs others meet t k'.0 k k'.1 hk in
        let f_is = flush_met e.ends ours e.butler.ends theirs others meet t f'.0 f f'.1 hf in record {
          sent = a.sent ∙ sym (ap (λ (z : Sender Item). reverse (kinds z.sent)) d_is);
          received = a.received ∙ sym (ap (λ (z : Receiver Item). length z.received) r_is);
          tails = a.tails ∙ sym (ap (λ (z : Receiver Item). reverse z.tails) r_is);
          put = a.put ∙ sym (ap (λ (z : Sender TakeBlock). reverse (map captured_of z.sent)) k_is);
          flushed = a.flushed ∙ sym (ap (λ (z : Receiver TakeBlock). length z.received) f_is);
          heads = a.heads ∙ sym (ap (λ (z : Sender TakeBlock). reverse z.heads) k_is);
          taking = a.taking;
        };
    acks = was.acks ∙ sym (ap (λ (z : Sender Ack). reverse (map ack_of z.sent)) meet.acks.sender);
    taken = was.taken ∙ sym (ap (λ (z : Receiver Ack). length z.received) meet.acks.receiver);
    none_read = was.none_read;
    none_written = was.none_written;
  }
