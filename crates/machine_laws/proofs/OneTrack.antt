-- An event that changes one track alone: it sends, looks, captures or flushes.
use Rattle.std.proofs.Common.{◌≡◌, ℕ, suc, ◌-◌, ◌<◌, List, [], ◌∷◌, ◌++◌, length, refl, sym, subst, arith, ◌∙◌}
use Rattle.std.specs.Prelude.{Bool, true, false, ◌&&◌, nat_lt, if◌then◌else◌, is_some, Option, Some, None, slice_get, map}
use Rattle.std.proofs.lemmas.Bool.{and_parts, ltb-true, false≢true}
use Rattle.std.proofs.lemmas.Option.{same_Some}
use Rattle.session_model.specs.declared.session.Session.{Session}
use Rattle.engine_laws.specs.MadeLaws.{LooksStand}
use Rattle.engine_model.specs.Changes.{changed_at}
use Rattle.engine_model.specs.Items.{Kind}
use Rattle.engine_model.specs.Due.{due}
use Rattle.engine_model.specs.Made.{Receives}
use Rattle.engine_laws.proofs.SendLemmas.{send_keeps}
use Rattle.engine_laws.proofs.MadeLemmas.{made_goes_on}
use Rattle.engine_laws.proofs.LooksLemmas.{looks_stand_while_receiving}
use Rattle.machine_model.specs.Core.{Core, TrackState, received_of, acks_taken}
use Rattle.machine_model.specs.Events.{Send, Flush, Look, can, done, due_of, has_room, sent_one, looked_once, with_tracks, most_sent}
use Rattle.machine_laws.specs.Stands.{Stands, PlaybackStands, TrackLooked, CaptureStands}
use Rattle.machine_laws.proofs.Keeping.{captures_same, looked_same}
use Rattle.machine_laws.proofs.OnceLemmas.{sending_once}
use Rattle.machine_laws.proofs.Received.{received_sent, more_received, receives_changed, receives_same, recorded_on}
use Rattle.machine_laws.proofs.Tracks.{each_changed, long_changed, at_place, same_mapped}

-- all stands where it stands of the track that is changed
pub one_track : (session : Session) (cycles : ℕ) (c : Core) (f : TrackState → TrackState) (t : ℕ) → Stands session cycles c →
    Receives (map received_of c.tracks) (map received_of (changed_at f t c.tracks)) →
    ((x : TrackState) → slice_get c.tracks t ≡ Some x → PlaybackStands session c.edits cycles c.entered t (f x)) →
    ((x : TrackState) → slice_get c.tracks t ≡ Some x → TrackLooked session c t (f x)) →
    ((x : TrackState) → slice_get c.tracks t ≡ Some x → CaptureStands session c t (f x)) → Stands session cycles (with_tracks f t c)
one_track session cycles c f t s more playback looks captures = record {
  accepted = s.accepted;
  entered = s.entered;
  playing = s.playing;
  unended = s.unended;
  asked = s.asked;
  asked_now = s.asked_now;
  many = long_changed f t c.tracks ∙ s.many;
  playback = each_changed (PlaybackStands session c.edits cycles c.entered) f t c.tracks s.playback playback;
  made = made_goes_on session c.edits c.playing c.playing (map received_of c.tracks) (map received_of (changed_at f t c.tracks)) c.entries (omega arith) more s.made;
  looks = each_changed (TrackLooked session (with_tracks f t c)) f t c.tracks (λ i x e. looked i x (s.looks i x e)) (λ x e. looked t (f x) (looks x e));
  captures = each_changed (CaptureStands session (with_tracks f t c)) f t c.tracks (λ i x e. captured i x (s.captures i x e)) (λ x e. captured t (f x) (captures x e));
  to_butler = record { of_entries = s.to_butler.of_entries; taken = s.to_butler.taken; room = s.to_butler.room; told = s.to_butler.told; none_newer = s.to_butler.none_newer };
  to_control = record { of_entries = s.to_control.of_entries; taken = s.to_control.taken; room = s.to_control.room; told = s.to_control.told; none_newer = s.to_control.none_newer };
}
  where
    looked : (i : ℕ) (x : TrackState) → TrackLooked session c i x → TrackLooked session (with_tracks f t c) i x
    looked i x l = looked_same session c (with_tracks f t c) i x refl refl l

    captured : (i : ℕ) (x : TrackState) → CaptureStands session c i x → CaptureStands session (with_tracks f t c) i x
    captured i x h = captures_same session c (with_tracks f t c) i x refl (λ o. o) (recorded_on session c (changed_at f t c.tracks) i more) h

-- ---- the butler sends

abbrev sends : Session → ℕ → Core → ℕ → TrackState → TrackState
sends session cycles c t x = sent_one (due_of session cycles c t x) x

pub by_send : (session : Session) (cycles : ℕ) (c : Core) (t : ℕ) → Stands session cycles c → can session cycles c (Send t) ≡ true → Stands session cycles (done session cycles c (Send t))
by_send session cycles c t s may = one_track session cycles c (sends session cycles c t) t s
    (receives_same (map received_of c.tracks) (map received_of (changed_at (sends session cycles c t) t c.tracks)) (same_mapped received_of (sends session cycles c t) t c.tracks same)) playback
    looks captures
  where
    same : (x : TrackState) → slice_get c.tracks t ≡ Some x → received_of (sends session cycles c t x) ≡ received_of x
    same x e = received_sent (due_of session cycles c t x) x (s.playback t x e).received

    room : (x : TrackState) → slice_get c.tracks t ≡ Some x → length x.sent - x.received < session.depth
    room x e = let there = at_place c.tracks t (λ y. has_room session y && is_some (due_of session cycles c t y)) may in
        let this : there.0 ≡ x = same_Some there.0 x (sym there.1 ∙ e) in
        let free = and_parts (has_room session there.0) (is_some (due_of session cycles c t there.0)) there.2 in
        ltb-true (length x.sent - x.received) session.depth
        (and_parts (nat_lt (length x.sent - x.received) session.depth) (nat_lt (length x.sent) most_sent) (subst (λ y. has_room session y ≡ true) this free.0)).0

    playback : (x : TrackState) → slice_get c.tracks t ≡ Some x → PlaybackStands session c.edits cycles c.entered t (sends session cycles c t x)
    playback x e = by (due_of session cycles c t x) refl
      where
        by : (o : Option Kind) → due_of session cycles c t x ≡ o → PlaybackStands session c.edits cycles c.entered t (sent_one o x)
        by None due = s.playback t x e
        by (Some item) due = let p = s.playback t x e in record {
          kept = send_keeps session c.edits cycles t c.entered (acks_taken c.to_butler) x.sent item p.kept due;
          once = sending_once session c.edits cycles t c.entered (acks_taken c.to_butler) x.sent item p.kept p.once due;
          received = omega (arith, p.received);
          room = omega (arith, p.received, room x e);
        }

    looks : (x : TrackState) → slice_get c.tracks t ≡ Some x → TrackLooked session c t (sends session cycles c t x)
    looks x e = by (due_of session cycles c t x) (same x e)
      where
        to : (y : List Kind) (tails : List ℕ) → y ≡ received_of x → LooksStand c.edits session.depth t (received_of x) tails c.entries → LooksStand c.edits session.depth t y tails c.entries
        to y tails e' l = subst (λ z. LooksStand c.edits session.depth t z tails c.entries) (sym e') l

        by : (o : Option Kind) → received_of (sent_one o x) ≡ received_of x → TrackLooked session c t (sent_one o x)
        by None e' = s.looks t x e
        by (Some item) e' = let l = s.looks t x e in record {
          true_now = to (received_of (sent_one (Some item) x)) x.tails e' l.true_now;
          noted = λ ended. let n = l.noted ended in (n.0, n.1, to (received_of (sent_one (Some item) x)) n.0 e' n.2);
        }

    captures : (x : TrackState) → slice_get c.tracks t ≡ Some x → CaptureStands session c t (sends session cycles c t x)
    captures x e = by (due_of session cycles c t x)
      where
        by : (o : Option Kind) → CaptureStands session c t (sent_one o x)
        by None = s.captures t x e
        by (Some item) = let h = s.captures t x e in record { put = h.put; heads = h.heads; flushed = h.flushed; room = h.room; full = h.full; full_now = h.full_now; next = h.next }

-- ---- the butler flushes

abbrev flushes : TrackState → TrackState
flushes x = record x { flushed = suc x.flushed }

pub by_flush : (session : Session) (cycles : ℕ) (c : Core) (t : ℕ) → Stands session cycles c → can session cycles c (Flush t) ≡ true → Stands session cycles (done session cycles c (Flush t))
by_flush session cycles c t s may = one_track session cycles c flushes t s
    (receives_same (map received_of c.tracks) (map received_of (changed_at flushes t c.tracks)) (same_mapped received_of flushes t c.tracks (λ x e. refl)))
    (λ x e. let p = s.playback t x e in record { kept = p.kept; once = p.once; received = p.received; room = p.room })
    (λ x e. let l = s.looks t x e in record { true_now = l.true_now; noted = l.noted }) captures
  where
    some : (x : TrackState) → slice_get c.tracks t ≡ Some x → x.flushed < length x.put
    some x e = let there = at_place c.tracks t (λ y. nat_lt y.flushed (length y.put)) may in
        ltb-true x.flushed (length x.put) (subst (λ y. nat_lt y.flushed (length y.put) ≡ true) (same_Some there.0 x (sym there.1 ∙ e)) there.2)

    captures : (x : TrackState) → slice_get c.tracks t ≡ Some x → CaptureStands session c t (flushes x)
    captures x e = let h = s.captures t x e in record {
      put = h.put;
      heads = h.heads;
      flushed = omega (arith, some x e);
      room = omega (arith, h.room);
      full = h.full;
      full_now = h.full_now;
      next = h.next;
    }

-- ---- the process looks

pub by_look : (session : Session) (cycles : ℕ) (c : Core) (t : ℕ) → Stands session cycles c → can session cycles c (Look t) ≡ true → Stands session cycles (done session cycles c (Look t))
by_look session cycles c t s may = one_track session cycles c looked_once t s (receives_changed looked_once t c.tracks more_received)
    (λ x e. playback x (s.playback t x e)) (λ x e. looks x (s.looks t x e)) (λ x e. captures x (s.captures t x e))
  where
    playback : (x : TrackState) → PlaybackStands session c.edits cycles c.entered t x → PlaybackStands session c.edits cycles c.entered t (looked_once x)
    playback x p = by (nat_lt x.received (length x.sent)) refl
      where
        by : (b : Bool) → nat_lt x.received (length x.sent) ≡ b → PlaybackStands session c.edits cycles c.entered t
            (if b then record x { received = suc x.received; ended = false } else record x { tails = x.received ∷ x.tails; ended = true })
        by true lt = record { kept = p.kept; once = p.once; received = ltb-true x.received (length x.sent) lt; room = omega (arith, p.room) }
        by false lt = record { kept = p.kept; once = p.once; received = p.received; room = p.room }

    looks : (x : TrackState) → TrackLooked session c t x → TrackLooked session c t (looked_once x)
    looks x l = by (nat_lt x.received (length x.sent)) (more_received x)
      where
        by : (b : Bool) → ((more : List Kind) × (received_of (if b then record x { received = suc x.received; ended = false } else record x { tails = x.received ∷ x.tails; ended = true }) ≡ more
            ++ received_of x)) →
            TrackLooked session c t (if b then record x { received = suc x.received; ended = false } else record x { tails = x.received ∷ x.tails; ended = true })
        by true m = record {
          true_now = subst (λ y. LooksStand c.edits session.depth t y x.tails c.entries) (sym m.1)
              (looks_stand_while_receiving c.edits session.depth t m.0 (received_of x) [] x.tails c.entries l.true_now);
          noted = λ no. absurd (false≢true no);
        }
        by false m = record {
          true_now = looks_stand_while_receiving c.edits session.depth t [] (received_of x) (x.received ∷ []) x.tails c.entries l.true_now;
          noted = λ yes. (x.tails, refl, l.true_now);
        }

    captures : (x : TrackState) → CaptureStands session c t x → CaptureStands session c t (looked_once x)
    captures x h = by (nat_lt x.received (length x.sent))
      where
        by : (b : Bool) → CaptureStands session c t (if b then record x { received = suc x.received; ended = false } else record x { tails = x.received ∷ x.tails; ended = true })
        by true = record { put = h.put; heads = h.heads; flushed = h.flushed; room = h.room; full = h.full; full_now = h.full_now; next = h.next }
        by false = record { put = h.put; heads = h.heads; flushed = h.flushed; room = h.room; full = h.full; full_now = h.full_now; next = h.next }
