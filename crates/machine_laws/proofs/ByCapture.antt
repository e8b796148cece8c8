-- The process captures a track: the block is put, or lost where the capture ring is full.
use Rattle.std.proofs.Common.{◌≡◌, ℕ, ◌+◌, ◌-◌, ◌≤◌, ◌∷◌, ◌++◌, length, refl, sym, ap, subst, arith, ◌∙◌}
use Rattle.std.specs.Prelude.{Bool, true, false, ◌&&◌, nat_lt, nat_eq, if◌then◌else◌, is_none, Option, Some, None, slice_get, map}
use Rattle.std.proofs.lemmas.Bool.{and_parts, and_from, ltb-true, ltb-false, eq-eqb, false≢true}
use Rattle.std.proofs.lemmas.Option.{same_Some}
use Rattle.session_model.specs.declared.session.Session.{Session}
use Rattle.engine_model.specs.Changes.{changed_at}
use Rattle.engine_model.specs.Fits.{next_take}
use Rattle.engine_model.specs.Journal.{Take, Taken, Lost}
use Rattle.machine_model.specs.Core.{Core, TrackState, received_of}
use Rattle.machine_model.specs.Events.{Capture, can, done, is_recorded, have_looked, captured_once, at_track}
use Rattle.machine_laws.specs.Stands.{Stands, PlaybackStands, TrackLooked, CaptureStands, blocks_taken, heads_lost, pending, block_of_take, head_of_take, is_next_take}
use Rattle.machine_laws.proofs.OneTrack.{one_track}
use Rattle.machine_laws.proofs.Received.{receives_same}
use Rattle.machine_laws.proofs.Tracks.{at_place, same_mapped}

nothing : (o : Option Take) → is_none o ≡ true → o ≡ None
nothing None e = refl
nothing (Some take) e = absurd (false≢true e)

abbrev pub with_block : ℕ × ℕ → TrackState → TrackState
with_block next x = record x { put = record { take = next.0; index = next.1 } ∷ x.put; taking = Some (Taken next.0 next.1) }

abbrev pub with_loss : ℕ × ℕ → TrackState → TrackState
with_loss next x = record x { heads = x.flushed ∷ x.heads; taking = Some (Lost next.0 next.1 x.flushed) }

-- the next block of a take is its next block
is_its_next : (next : ℕ × ℕ) → nat_eq next.0 next.0 && nat_eq next.1 next.1 ≡ true
is_its_next next = and_from (nat_eq next.0 next.0) (nat_eq next.1 next.1) (eq-eqb next.0 next.0 refl) (eq-eqb next.1 next.1 refl)

captured : (session : Session) (c : Core) (t : ℕ) (x : TrackState) → c.in_cycle ≡ true → is_recorded session c t ≡ true → x.taking ≡ None → CaptureStands session c t x →
    CaptureStands session c t (captured_once session.depth (next_take t c.entries) x)
captured session c t x open_now recorded none h = by (nat_lt (length x.put - x.flushed) session.depth) refl
  where
    old_put : x.put ≡ blocks_taken t c.entries
    old_put = h.put ∙ ap (λ o. pending block_of_take o ++ blocks_taken t c.entries) none

    old_heads : x.heads ≡ heads_lost t c.entries
    old_heads = h.heads ∙ ap (λ o. pending head_of_take o ++ heads_lost t c.entries) none

    by : (b : Bool) → nat_lt (length x.put - x.flushed) session.depth ≡ b →
        CaptureStands session c t (if b then with_block (next_take t c.entries) x else with_loss (next_take t c.entries) x)
    by true lt = let free = ltb-true (length x.put - x.flushed) session.depth lt in record {
      put = ap (λ l. record { take = (next_take t c.entries).0; index = (next_take t c.entries).1 } ∷ l) old_put;
      heads = old_heads;
      flushed = omega (arith, h.flushed);
      room = omega (arith, h.flushed, free);
      full = h.full;
      full_now = refl;
      next = λ take is. (
        open_now,
        recorded,
        subst (λ k. is_next_take (next_take t c.entries) k ≡ true) (same_Some (Taken (next_take t c.entries).0 (next_take t c.entries).1) take is)
            (is_its_next (next_take t c.entries)),
      );
    }
    by false ge = let none_free = ltb-false (length x.put - x.flushed) session.depth ge in record {
      put = old_put;
      heads = ap (λ l. x.flushed ∷ l) old_heads;
      flushed = h.flushed;
      room = h.room;
      full = h.full;
      full_now = eq-eqb (length (blocks_taken t c.entries)) (x.flushed + session.depth) (sym (ap length old_put) ∙ both none_free);
      next = λ take is. (
        open_now,
        recorded,
        subst (λ k. is_next_take (next_take t c.entries) k ≡ true) (same_Some (Lost (next_take t c.entries).0 (next_take t c.entries).1 x.flushed) take is)
            (is_its_next (next_take t c.entries)),
      );
    }
      where
        both : session.depth ≤ length x.put - x.flushed → length x.put ≡ x.flushed + session.depth
        both full = omega (arith, full, h.room, h.flushed)

pub by_capture : (session : Session) (cycles : ℕ) (c : Core) (t : ℕ) → Stands session cycles c → can session cycles c (Capture t) ≡ true → Stands session cycles (done session cycles c (Capture t))
by_capture session cycles c t s may = one_track session cycles c (captured_once session.depth (next_take t c.entries)) t s
    (receives_same (map received_of c.tracks) (map received_of (changed_at (captured_once session.depth (next_take t c.entries)) t c.tracks))
    (same_mapped received_of (captured_once session.depth (next_take t c.entries)) t c.tracks (λ x e. received x)))
    (λ x e. playback x (s.playback t x e)) (λ x e. looks x (s.looks t x e)) captures
  where
    received : (x : TrackState) → received_of (captured_once session.depth (next_take t c.entries) x) ≡ received_of x
    received x = by (nat_lt (length x.put - x.flushed) session.depth)
      where
        by : (b : Bool) → received_of (if b then with_block (next_take t c.entries) x else with_loss (next_take t c.entries) x) ≡ received_of x
        by true = refl
        by false = refl

    playback : (x : TrackState) → PlaybackStands session c.edits cycles c.entered t x → PlaybackStands session c.edits cycles c.entered t (captured_once session.depth (next_take t c.entries) x)
    playback x p = by (nat_lt (length x.put - x.flushed) session.depth)
      where
        by : (b : Bool) → PlaybackStands session c.edits cycles c.entered t (if b then with_block (next_take t c.entries) x else with_loss (next_take t c.entries) x)
        by true = record { kept = p.kept; once = p.once; received = p.received; room = p.room }
        by false = record { kept = p.kept; once = p.once; received = p.received; room = p.room }

    looks : (x : TrackState) → TrackLooked session c t x → TrackLooked session c t (captured_once session.depth (next_take t c.entries) x)
    looks x l = by (nat_lt (length x.put - x.flushed) session.depth)
      where
        by : (b : Bool) → TrackLooked session c t (if b then with_block (next_take t c.entries) x else with_loss (next_take t c.entries) x)
        by true = record { true_now = l.true_now; noted = l.noted }
        by false = record { true_now = l.true_now; noted = l.noted }

    captures : (x : TrackState) → slice_get c.tracks t ≡ Some x → CaptureStands session c t (captured_once session.depth (next_take t c.entries) x)
    captures x e = let one = and_parts (c.in_cycle && have_looked session c && is_recorded session c t) (at_track c t (λ y. is_none y.taking)) may in
        let two = and_parts (c.in_cycle && have_looked session c) (is_recorded session c t) one.0 in
        let there = at_place c.tracks t (λ y. is_none y.taking) one.1 in
        captured session c t x (and_parts c.in_cycle (have_looked session c) two.0).0 two.1
        (nothing x.taking (subst (λ y. is_none y.taking ≡ true) (same_Some there.0 x (sym there.1 ∙ e)) there.2)) (s.captures t x e)
