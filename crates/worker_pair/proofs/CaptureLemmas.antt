-- What the process captures of a track is what the core machine captures.
use Rattle.std.proofs.Common.{◌≡◌, inl, inr, ℕ, zero, suc, ◌+◌, ◌-◌, ◌<◌, ◌≤◌, List, [], ◌∷◌, ◌++◌, length, refl, sym, ap, subst, arith, ◌∙◌}
use Rattle.std.specs.Prelude.{Bool, true, false, ◌&&◌, ◌==◌, ℤ, pos, is_none, nat_lt, if◌then◌else◌, map, reverse, slice_get, Some}
use Rattle.std.specs.Option.{option_map_or}
use Rattle.std.proofs.lemmas.Bool.{and_parts, eqb-true, le-ltb, lt-ltb, not-true}
use Rattle.std.proofs.lemmas.List.{length-map, length-reverse, map-append, reverse-append}
use Rattle.std.proofs.lemmas.Option.{none-some, same_Some}
use Rattle.session_model.specs.declared.session.Session.{Session}
use Rattle.engine_model.specs.Editions.{Edition}
use Rattle.engine_model.specs.Fits.{fits_note, fits_notes, fits_play, fits_take, next_take, records}
use Rattle.engine_model.specs.Journal as engine
use Rattle.engine_model.specs.Journal.{Entry, Note, note_of}
use Rattle.engine_model.specs.Takes.{Input}
use Rattle.machine_model.specs.Core.{Core, TrackState}
use Rattle.machine_model.specs.Events.{begun, captured_once, is_recorded, take_made}
use Rattle.machine_laws.proofs.ByCapture.{with_block, with_loss}
use Rattle.machine_laws.proofs.CaptureLemmas.{capture_if, captured_from}
use Rattle.disk_ring.specs.Sender.{Sender, FoundFull}
use Rattle.disk_ring.specs.Receiver.{Receiver}
use Rattle.piece_item.specs.declared.item.Item.{Item}
use Rattle.piece_item.specs.declared.take_block.TakeBlock.{TakeBlock}
use Rattle.cycle_journal.specs.declared.note.Take.{Take}
use Rattle.cycle_journal.specs.declared.note.Take.TheVariants.{Off, Taken, Lost}
use Rattle.cycle_journal.specs.JournalView.{seen_take}
use Rattle.capture_flush.specs.Blocks.{block_of, place_of, taken_blocks, taken_from, taken_in}
use Rattle.track_capture.specs.Counted.{HasCaptured}
use Rattle.process_cycle.specs.Captured.{AreCaptured}
use Rattle.worker_pair.specs.Tied.{IsTrackOf, captured_of}

-- ---- one track

-- what a capture made of a track, and of the end that puts
pub record IsCapturedTo (x y : TrackState) (l : Sender TakeBlock) (take : engine.Take) : Type 0 where
  pub put : y.put ≡ reverse (map captured_of l.sent)
  pub heads : y.heads ≡ reverse l.heads
  pub made : take_made y ≡ take
  pub same : y ≡ record x { put = y.put; heads = y.heads; taking = y.taking }

module _ (s : Session) (t channels : ℕ) (input : List ℤ) (x : TrackState) (d : Sender Item) (r : Receiver Item) (k l : Sender TakeBlock) (f : Receiver TakeBlock) (was : IsTrackOf x d r k f)
    (knew : k.got ≡ length f.received) (low : l.got ≤ length f.received) (deep : k.depth ≡ s.depth) (few : length k.sent ≤ 100000) (recorded : Bool) (next : ℕ × ℕ) where
  -- as many blocks were put
  many_put : length x.put ≡ length k.sent
  many_put = ap length was.put ∙ length-reverse (map captured_of k.sent) ∙ length-map k.sent captured_of

  -- where it is recorded, a capture goes by the room of the ring
  capture_is : recorded ≡ true → (b : Bool) → nat_lt (length x.put - x.flushed) s.depth ≡ b → capture_if s.depth recorded next x ≡ (if b then with_block next x else with_loss next x)
  capture_is records b room = ap (λ z. if z && is_none x.taking then captured_once s.depth next x else x) records ∙ ap (λ o. if is_none o then captured_once s.depth next x else x) was.taking
      ∙ ap (λ z. if z then with_block next x else with_loss next x) room

  -- **What the process took of a track the core machine takes.**
  pub captured_so : (take : Take) → fits_take recorded next (seen_take take) ≡ true → HasCaptured s t channels input k take l → IsCapturedTo x (capture_if s.depth recorded next x) l (seen_take take)
  captured_so Off fit same = subst (λ b. IsCapturedTo x (capture_if s.depth b next x) l engine.Off) (sym (not-true recorded fit)) (record {
    put = was.put ∙ ap (λ (z : Sender TakeBlock). reverse (map captured_of z.sent)) (sym same);
    heads = was.heads ∙ ap (λ (z : Sender TakeBlock). reverse z.heads) (sym same);
    made = ap (λ o. option_map_or (λ (take : engine.Take). take) o engine.Off) was.taking;
    same = refl;
  })
  captured_so (Taken n i) fit taken = subst (λ y. IsCapturedTo x y l (engine.Taken n i)) (sym (capture_is first.0 true (lt-ltb (length x.put - x.flushed) s.depth room))) (record {
    put = (λ j. record { take = sym (taken.take ∙ n_is) j; index = sym (taken.index ∙ i_is) j } ∷ was.put j) ∙ sym pushed;
    heads = was.heads ∙ ap (λ (z : Sender TakeBlock). reverse z.heads) (sym taken.sent);
    made = λ j. engine.Taken (sym n_is j) (sym i_is j);
    same = refl;
  })
    where
      whole : (recorded && n == next.0 ≡ true) × ((i == next.1) ≡ true)
      whole = and_parts (recorded && n == next.0) (i == next.1) fit

      first : (recorded ≡ true) × ((n == next.0) ≡ true)
      first = and_parts recorded (n == next.0) whole.0

      n_is : n ≡ next.0
      n_is = eqb-true n next.0 first.1

      i_is : i ≡ next.1
      i_is = eqb-true i next.1 whole.1

      pushed : reverse (map captured_of l.sent) ≡ captured_of taken.block ∷ reverse (map captured_of k.sent)
      pushed = ap (λ (z : Sender TakeBlock). reverse (map captured_of z.sent)) taken.sent ∙ ap reverse (map-append captured_of k.sent (taken.block ∷ []))
          ∙ reverse-append (map captured_of k.sent) (captured_of taken.block ∷ [])

      room : length x.put - x.flushed < s.depth
      room = by taken.head.rises taken.head.within (λ full. taken.free (inl full))
        where
          by : k.got ≤ l.got → length k.sent ≤ l.got + k.depth → ¬ (length k.sent ≡ l.got + k.depth) → length x.put - x.flushed < s.depth
          by rises within free = omega (arith, rises, within, free, knew, low, deep, many_put, was.flushed)
  captured_so (Lost n i head) fit refused = subst (λ y. IsCapturedTo x y l (engine.Lost n i head)) (sym (capture_is first.0 false (le-ltb (length x.put - x.flushed) s.depth full))) (record {
    put = was.put ∙ ap (λ (z : Sender TakeBlock). reverse (map captured_of z.sent)) (sym refused.heads);
    heads = (λ j. head_is j ∷ was.heads j) ∙ sym (ap (λ (z : Sender TakeBlock). reverse z.heads) refused.heads ∙ reverse-append k.heads (head ∷ []));
    made = λ j. engine.Lost (sym n_is j) (sym i_is j) (head_is j);
    same = refl;
  })
    where
      whole : (recorded && n == next.0 ≡ true) × ((i == next.1) ≡ true)
      whole = and_parts (recorded && n == next.0) (i == next.1) fit

      first : (recorded ≡ true) × ((n == next.0) ≡ true)
      first = and_parts recorded (n == next.0) whole.0

      n_is : n ≡ next.0
      n_is = eqb-true n next.0 first.1

      i_is : i ≡ next.1
      i_is = eqb-true i next.1 whole.1

      -- it knows of as many as were flushed
      head_got : l.got ≡ head
      head_got = ap (λ (z : Sender TakeBlock). z.got) refused.heads

      head_is : x.flushed ≡ head
      head_is = by refused.head_is.rises
        where
          by : k.got ≤ head → x.flushed ≡ head
          by rises = omega (arith, rises, head_got, knew, low, was.flushed)

      full : s.depth ≤ length x.put - x.flushed
      full = by refused.full
        where
          by : FoundFull k head → s.depth ≤ length x.put - x.flushed
          by (inl e) = omega (arith, e, head_is, deep, many_put)
          by (inr e) = absurd (omega (arith, e, few))

-- the track when the next cycle begins
pub captured_track : (x y : TrackState) (d : Sender Item) (r : Receiver Item) (k l : Sender TakeBlock) (f : Receiver TakeBlock) (take : engine.Take) → IsTrackOf x d r k f → IsCapturedTo x y l take →
    IsTrackOf (begun y) d r l f
captured_track x y d r k l f take was now = record {
  sent = ap (λ z. z.sent) now.same ∙ was.sent;
  received = ap (λ z. z.received) now.same ∙ was.received;
  tails = ap (λ z. z.tails) now.same ∙ was.tails;
  put = now.put;
  flushed = ap (λ z. z.flushed) now.same ∙ was.flushed;
  heads = now.heads;
  taking = refl;
}

-- a capture leaves the ring
pub capture_on : (s : Session) (t channels : ℕ) (input : List ℤ) (take : Take) (k l : Sender TakeBlock) → HasCaptured s t channels input k take l → l.ring ≡ k.ring
capture_on s t channels input Off k l same = ap (λ (z : Sender TakeBlock). z.ring) same
capture_on s t channels input (Taken n i) k l taken = ap (λ (z : Sender TakeBlock). z.ring) taken.sent
capture_on s t channels input (Lost n i head) k l refused = ap (λ (z : Sender TakeBlock). z.ring) refused.heads

-- ---- all tracks

-- the place after one more
next_place : (first t : ℕ) → suc first + t ≡ first + suc t
next_place first t = omega arith

same_place : (first : ℕ) → first ≡ first + 0
same_place first = omega arith

-- a track after the captures, of which the first is track `first`
captured_there : (s : Session) (c : Core) (first : ℕ) (xs : List TrackState) (t : ℕ) (y : TrackState) → slice_get (captured_from s c first xs) t ≡ Some y →
    (x : TrackState) × (slice_get xs t ≡ Some x) × (y ≡ capture_if s.depth (is_recorded s c (first + t)) (next_take (first + t) c.entries) x)
captured_there s c first [] t y at = absurd (none-some y at)
captured_there s c first (x ∷ xs) zero y at =
    (x, refl, sym (same_Some (capture_if s.depth (is_recorded s c first) (next_take first c.entries) x) y at) ∙ ap (λ n. capture_if s.depth (is_recorded s c n) (next_take n c.entries) x) (same_place first))
captured_there s c first (x ∷ xs) (suc t) y at = let there = captured_there s c (suc first) xs t y at in
    (there.0, there.1, there.2 ∙ ap (λ n. capture_if s.depth (is_recorded s c n) (next_take n c.entries) there.0) (next_place first t))

-- the same of all tracks
pub captured_at : (s : Session) (c : Core) (xs : List TrackState) (t : ℕ) (y : TrackState) → slice_get (captured_from s c 0 xs) t ≡ Some y →
    (x : TrackState) × (slice_get xs t ≡ Some x) × (y ≡ capture_if s.depth (is_recorded s c t) (next_take t c.entries) x)
captured_at s c xs t y at = let there = captured_there s c 0 xs t y at in
    (there.0, there.1, there.2 ∙ ap (λ n. capture_if s.depth (is_recorded s c n) (next_take n c.entries) there.0) (none_before t))
  where
    none_before : (t : ℕ) → 0 + t ≡ t
    none_before t = omega arith

-- as many tracks
pub captured_many : (s : Session) (c : Core) (first : ℕ) (xs : List TrackState) → length (captured_from s c first xs) ≡ length xs
captured_many s c first [] = refl
captured_many s c first (x ∷ xs) = ap suc (captured_many s c (suc first) xs)

-- ---- the notes of an entry that fits

-- each take fits, where the first note is that of track `first`
takes_from : (now : Edition) (rolling : Bool) (n : ℕ) (before : List Entry) (first : ℕ) (notes : List Note) → fits_notes now rolling n before first notes ≡ true →
    (t : ℕ) (note : Note) → slice_get notes t ≡ Some note → fits_take (rolling && records now (first + t)) (next_take (first + t) before) note.take ≡ true
takes_from now rolling n before first [] fit t note at = absurd (none-some note at)
takes_from now rolling n before first (x ∷ notes) fit zero note at =
    let parts = and_parts (fits_note now rolling n before first x) (fits_notes now rolling n before (suc first) notes) fit in
    subst (λ k. fits_take (rolling && records now k) (next_take k before) note.take ≡ true) (same_place first)
    (subst (λ (z : Note). fits_take (rolling && records now first) (next_take first before) z.take ≡ true) (same_Some x note at)
    (and_parts (fits_play rolling n x.play) (fits_take (rolling && records now first) (next_take first before) x.take) parts.0).1)
takes_from now rolling n before first (x ∷ notes) fit (suc t) note at =
    let parts = and_parts (fits_note now rolling n before first x) (fits_notes now rolling n before (suc first) notes) fit in
    subst (λ k. fits_take (rolling && records now k) (next_take k before) note.take ≡ true) (next_place first t) (takes_from now rolling n before (suc first) notes parts.1 t note at)

-- the same of all notes
pub takes_fit : (now : Edition) (rolling : Bool) (n : ℕ) (before : List Entry) (notes : List Note) → fits_notes now rolling n before 0 notes ≡ true → (t : ℕ) (note : Note) → slice_get notes t ≡ Some note →
    fits_take (rolling && records now t) (next_take t before) note.take ≡ true
takes_fit now rolling n before notes fit t note at =
    subst (λ k. fits_take (rolling && records now k) (next_take k before) note.take ≡ true) {x = 0 + t} {y = t} (omega arith) (takes_from now rolling n before 0 notes fit t note at)

-- ---- how many were captured

-- no more blocks than entries
taken_few : (s : Session) (input : Input) (t c : ℕ) (journal : List Entry) → length (taken_from s input t c journal) ≤ length journal
taken_few s input t c [] = omega arith
taken_few s input t c (e ∷ es) = by (note_of t e).take (taken_few s input t (suc c) es)
  where
    by : (take : engine.Take) → length (taken_from s input t (suc c) es) ≤ length es → length (taken_in s input t c take ++ taken_from s input t (suc c) es) ≤ length (e ∷ es)
    by engine.Off le = omega (arith, le)
    by (engine.Taken n i) le = omega (arith, le)
    by (engine.Lost n i head) le = omega (arith, le)

-- nor were more captured
pub few_captured : (s : Session) (t : ℕ) (entries : List Entry) (d : Sender TakeBlock) → AreCaptured s t entries d → length d.sent ≤ length entries
few_captured s t entries d was = let silence : Input = λ i k. pos 0 in omega (
  arith,
  length-map d.sent (λ b. place_of (block_of b)),
  ap length (was.places silence),
  length-map (taken_blocks s silence t (reverse entries)) place_of,
  taken_few s silence t 0 (reverse entries),
  length-reverse entries,
)
