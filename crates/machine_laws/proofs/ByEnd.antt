-- The process ends a cycle: its entry is made of what it received and took.
use Rattle.std.proofs.Common.{◌≡◌, inl, inr, ℕ, zero, suc, ◌+◌, ◌≤◌, List, [], ◌∷◌, ◌++◌, length, refl, sym, ap, subst, arith, ◌∙◌}
use Rattle.std.specs.Prelude.{Bool, true, false, ◌&&◌, ◌||◌, not, ◌==◌, is_some, Option, Some, None, slice_get, map}
use Rattle.std.specs.List.{list_all}
use Rattle.std.specs.Option.{option_map_or}
use Rattle.std.proofs.lemmas.Bool.{and_parts, and_from, or_cases, false≢true}
use Rattle.std.proofs.lemmas.List.{length-map}
use Rattle.std.proofs.lemmas.Option.{none-some, same_Some}
use Rattle.session_model.specs.declared.session.Session.{Session}
use Rattle.session_model.specs.Lists.{EachAt, each_from}
use Rattle.engine_model.specs.Editions.{edition}
use Rattle.engine_model.specs.Items.{Kind}
use Rattle.engine_model.specs.Journal.{Take, Off, Taken, Lost, State, Entry, is_rolling, note_at, note_of}
use Rattle.engine_model.specs.Cycle.{is_held, notes_of, entry_of}
use Rattle.engine_model.specs.Fits.{next_take, fits_take}
use Rattle.engine_model.specs.Made.{fit_takes}
use Rattle.engine_laws.specs.MadeLaws.{LooksStand, HasLookedUp}
use Rattle.engine_laws.proofs.LooksLemmas.{looks_stand_with_its_entry}
use Rattle.machine_model.specs.Core.{Core, TrackState, received_of, has_held, has_looked, playing_generation, playing_block, first_is_held, coming_state}
use Rattle.machine_model.specs.Events.{End, can, done, begun, take_made, have_looked, has_its_capture, is_recorded}
use Rattle.machine_laws.specs.Stands.{Stands, PlaybackStands, TrackLooked, CaptureStands, blocks_taken, heads_lost, pending, block_of_take, head_of_take, is_next_take, met_full}
use Rattle.machine_laws.proofs.Keeping.{acks_later}
use Rattle.machine_laws.proofs.LossLemmas.{full_with}
use Rattle.machine_laws.proofs.Received.{receives_same, received_long}
use Rattle.machine_laws.proofs.Tracks.{each_mapped, is_mapped, same_twice}

-- ---- what it takes

-- the entry notes of a track what the cycle took of it
note_takes : (state : State) (tracks : List (List Kind)) (takes : List Take) (t : ℕ) (take : Take) → length tracks ≡ length takes → slice_get takes t ≡ Some take →
    (note_at t (notes_of state tracks takes)).take ≡ take
note_takes state tracks [] t take long there = absurd (none-some take there)
note_takes state [] (k ∷ ks) t take long there = absurd (omega arith)
note_takes state (y ∷ ys) (k ∷ ks) zero take long there = same_Some k take there
note_takes state (y ∷ ys) (k ∷ ks) (suc t) take long there = note_takes state ys ks t take (omega arith) there

fits_pending : (recorded : Bool) (next : ℕ × ℕ) (o : Option Take) → not recorded || is_some o ≡ true →
    ((take : Take) → o ≡ Some take → (recorded ≡ true) × (is_next_take next take ≡ true)) → fits_take recorded next (option_map_or (λ take. take) o Off) ≡ true
fits_pending true next None has pend = absurd (false≢true has)
fits_pending false next None has pend = refl
fits_pending recorded next (Some Off) has pend = absurd (false≢true (pend Off refl).1)
fits_pending recorded next (Some (Taken n i)) has pend = let p = pend (Taken n i) refl in let both = and_parts (n == next.0) (i == next.1) p.1 in
    and_from (recorded && n == next.0) (i == next.1) (and_from recorded (n == next.0) p.0 both.0) both.1
fits_pending recorded next (Some (Lost n i head)) has pend = let p = pend (Lost n i head) refl in let both = and_parts (n == next.0) (i == next.1) p.1 in
    and_from (recorded && n == next.0) (i == next.1) (and_from recorded (n == next.0) p.0 both.0) both.1

takes_fit : (session : Session) (c : Core) (t : ℕ) (xs : List TrackState) → each_from (has_its_capture session c) t xs ≡ true →
    ((i : ℕ) (x : TrackState) → slice_get xs i ≡ Some x → (take : Take) → x.taking ≡ Some take → (is_recorded session c (i + t) ≡ true) × (is_next_take (next_take (i + t) c.entries) take ≡ true)) →
    fit_takes (edition session c.edits c.playing) (is_rolling (coming_state session c)) c.entries t (map take_made xs) ≡ true
takes_fit session c t [] has pend = refl
takes_fit session c t (x ∷ xs) has pend = let parts = and_parts (has_its_capture session c t x) (each_from (has_its_capture session c) (suc t) xs) has in
    and_from (fits_take (is_recorded session c t) (next_take t c.entries) (take_made x))
    (fit_takes (edition session c.edits c.playing) (is_rolling (coming_state session c)) c.entries (suc t) (map take_made xs))
    (fits_pending (is_recorded session c t) (next_take t c.entries) x.taking parts.0
    (λ take is. subst (λ n. (is_recorded session c n ≡ true) × (is_next_take (next_take n c.entries) take ≡ true)) (here t) (pend 0 x refl take is)))
    (takes_fit session c (suc t) xs parts.1 (λ i y e take is. subst (λ n. (is_recorded session c n ≡ true) × (is_next_take (next_take n c.entries) take ≡ true)) (next i t)
    (pend (suc i) y e take is)))
  where
    here : (t : ℕ) → 0 + t ≡ t
    here t = omega arith

    next : (i t : ℕ) → suc i + t ≡ i + suc t
    next i t = omega arith

-- ---- what it looked for

all_looked : (p : TrackState → Bool) (xs : List TrackState) → list_all p xs ≡ true → EachAt (λ i x. p x ≡ true) xs
all_looked p [] h i x e = absurd (none-some x e)
all_looked p (y ∷ ys) h zero x e = subst (λ z. p z ≡ true) (same_Some y x e) (and_parts (p y) (list_all p ys) h).0
all_looked p (y ∷ ys) h (suc i) x e = all_looked p ys (and_parts (p y) (list_all p ys) h).1 i x e

-- a look-up that is over, and what is true by the looks before it
looked_up : (session : Session) (c : Core) (t : ℕ) (x : TrackState) → x.received ≤ length x.sent → has_looked session c x ≡ true → TrackLooked session c t x →
    (before : List ℕ) × HasLookedUp session.depth (playing_generation c) (playing_block c) (received_of x) before x.tails × LooksStand c.edits session.depth t (received_of x) before c.entries
looked_up session c t x le over l = elim (or_cases x.ended (has_held session c x) over) [
  | inl ended ↦ let n = l.noted ended in (n.0, inl (n.1 ∙ ap (λ k. k ∷ n.0) (sym (received_long x le))), n.2)
  | inr held ↦ (x.tails, inr (first (received_of x) held), l.true_now)
]
  where
    first : (xs : List Kind) → first_is_held session.depth (playing_generation c) (playing_block c) xs ≡ true →
        (y : Kind) × (rest : List Kind) × (xs ≡ y ∷ rest) × (is_held session.depth (playing_generation c) (playing_block c) y ≡ true) × (x.tails ≡ x.tails)
    first [] h = absurd (false≢true h)
    first (y ∷ rest) h = (y, rest, refl, h, refl)

-- ---- the end of the cycle

abbrev pub made_now : Session → Core → Entry
made_now session c = entry_of session c.edits c.entries (map received_of c.tracks) (map take_made c.tracks) c.playing

abbrev ended : Session → Core → Core
ended session c = record c { in_cycle = false; tracks = map begun c.tracks; entries = made_now session c ∷ c.entries }

captures_end : (session : Session) (c : Core) (t : ℕ) (x : TrackState) → slice_get c.tracks t ≡ Some x → CaptureStands session c t x → CaptureStands session (ended session c) t (begun x)
captures_end session c t x there h = record {
  put = h.put ∙ blocks x.taking (note_of t (made_now session c)).take note;
  heads = h.heads ∙ heads x.taking (note_of t (made_now session c)).take note;
  flushed = h.flushed;
  room = h.room;
  full = full_with session.depth t (made_now session c) c.entries h.full (full x.taking (note_of t (made_now session c)).take note h.full_now);
  full_now = refl;
  next = λ take is. absurd (none-some take is);
}
  where
    note : (note_of t (made_now session c)).take ≡ option_map_or (λ take. take) x.taking Off
    note = note_takes (coming_state session c) (map received_of c.tracks) (map take_made c.tracks) t (take_made x) (length-map c.tracks received_of ∙ sym (length-map c.tracks take_made))
        (is_mapped take_made c.tracks t x there)

    blocks : (o : Option Take) (k : Take) → k ≡ option_map_or (λ take. take) o Off → pending block_of_take o ++ blocks_taken t c.entries ≡ block_of_take k ++ blocks_taken t c.entries
    blocks None k e = ap (λ n. block_of_take n ++ blocks_taken t c.entries) (sym e)
    blocks (Some take) k e = ap (λ n. block_of_take n ++ blocks_taken t c.entries) (sym e)

    heads : (o : Option Take) (k : Take) → k ≡ option_map_or (λ take. take) o Off → pending head_of_take o ++ heads_lost t c.entries ≡ head_of_take k ++ heads_lost t c.entries
    heads None k e = ap (λ n. head_of_take n ++ heads_lost t c.entries) (sym e)
    heads (Some take) k e = ap (λ n. head_of_take n ++ heads_lost t c.entries) (sym e)

    full : (o : Option Take) (k : Take) → k ≡ option_map_or (λ take. take) o Off → met_full session.depth (length (blocks_taken t c.entries)) o ≡ true →
        met_full session.depth (length (blocks_taken t c.entries)) (Some k) ≡ true
    full None k e h' = ap (λ n. met_full session.depth (length (blocks_taken t c.entries)) (Some n)) e
    full (Some take) k e h' = ap (λ n. met_full session.depth (length (blocks_taken t c.entries)) (Some n)) e ∙ h'

pub by_end : (session : Session) (cycles : ℕ) (c : Core) → Stands session cycles c → can session cycles c End ≡ true → Stands session cycles (done session cycles c End)
by_end session cycles c s may = record {
  accepted = s.accepted;
  entered = s.entered;
  playing = s.playing;
  unended = λ no. absurd (false≢true no);
  asked = s.asked_now open_now;
  asked_now = λ no. absurd (false≢true no);
  many = length-map c.tracks begun ∙ s.many;
  playback = each_mapped (PlaybackStands session c.edits cycles c.entered) begun c.tracks
      (λ t x e. let p = s.playback t x e in record { kept = p.kept; once = p.once; received = p.received; room = p.room });
  made = record {
    entered = c.playing;
    in_time = omega arith;
    unended = s.unended open_now;
    by = map received_of c.tracks;
    many = length-map c.tracks received_of ∙ s.many;
    received = receives_same (map received_of c.tracks) (map received_of (map begun c.tracks)) (same_twice received_of begun c.tracks (λ x. refl));
    takes = map take_made c.tracks;
    one_each = length-map c.tracks take_made ∙ s.many;
    fit = takes_fit session c 0 c.tracks parts.1 (λ i x e take is. let n = (s.captures i x e).next take is in
        subst (λ k. (is_recorded session c k ≡ true) × (is_next_take (next_take k c.entries) take ≡ true)) (from i) (n.1, n.2));
    is = refl;
    earlier = s.made;
  };
  looks = each_mapped (TrackLooked session (ended session c)) begun c.tracks (λ t x e. looks t x e (s.looks t x e));
  captures = each_mapped (CaptureStands session (ended session c)) begun c.tracks (λ t x e. captures_end session c t x e (s.captures t x e));
  to_butler = acks_later session c (ended session c) (made_now session c) c.to_butler refl refl s.to_butler;
  to_control = acks_later session c (ended session c) (made_now session c) c.to_control refl refl s.to_control;
}
  where
    parts : (c.in_cycle && have_looked session c ≡ true) × (each_from (has_its_capture session c) 0 c.tracks ≡ true)
    parts = and_parts (c.in_cycle && have_looked session c) (each_from (has_its_capture session c) 0 c.tracks) may

    open_now : c.in_cycle ≡ true
    open_now = (and_parts c.in_cycle (have_looked session c) parts.0).0

    from : (i : ℕ) → i ≡ i + 0
    from i = omega arith

    looks : (t : ℕ) (x : TrackState) → slice_get c.tracks t ≡ Some x → TrackLooked session c t x → TrackLooked session (ended session c) t (begun x)
    looks t x e l = let up = looked_up session c t x (s.playback t x e).received (all_looked (has_looked session c) c.tracks (and_parts c.in_cycle (have_looked session c) parts.0).1 t x e) l in
        record {
          true_now = looks_stand_with_its_entry session c.edits session.depth t c.playing up.0 x.tails (map received_of c.tracks) (received_of x) (map take_made c.tracks) c.entries
              (is_mapped received_of c.tracks t x e) (length-map c.tracks received_of ∙ s.many) (length-map c.tracks take_made ∙ s.many) up.1 up.2;
          noted = λ no. absurd (false≢true no);
        }
