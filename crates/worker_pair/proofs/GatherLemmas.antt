-- One look of the process at each track is the look-ups of the core machine.
use Rattle.std.proofs.Common.{◌≡◌, inl, inr, ℕ, suc, ◌+◌, ◌<◌, ◌≤◌, List, [], ◌∷◌, ◌++◌, length, refl, sym, ap, subst, arith, ◌∙◌}
use Rattle.std.specs.Prelude.{true, map, reverse, slice_get, slice_index_or, Some}
use Rattle.std.specs.List.{list_all}
use Rattle.std.proofs.lemmas.Bool.{and_from}
use Rattle.std.proofs.lemmas.List.{append_assoc, append-nil, append_cancel_left, length-append, length-map, map-append, nil_from_length, reverse-append}
use Rattle.std.proofs.lemmas.Option.{slice_get_within, get_or_from_slice_get}
use mathlib.Core.List.{IsPrefix}
use Rattle.ses_io.specs.Outside.{SourceOutside}
use Rattle.session_model.specs.declared.session.Session.{Session}
use Rattle.engine_model.specs.Edits.{generation}
use Rattle.engine_model.specs.Items.{Kind}
use Rattle.engine_model.specs.Journal.{rolled}
use Rattle.engine_laws.proofs.ListLemmas.{item_at}
use Rattle.machine_model.specs.Core.{Core, TrackState, playing_generation, playing_block, has_looked, received_of}
use Rattle.machine_model.specs.Events.{have_looked}
use Rattle.machine_laws.proofs.LookLemmas.{looked_fully, look_up_walks, AllWithin}
use Rattle.machine_laws.proofs.Tracks.{of_mapped, also_there}
use Rattle.disk_ring.specs.Sender.{Sender}
use Rattle.disk_ring.specs.Receiver.{Receiver}
use Rattle.piece_item.specs.declared.item.Item.{Item}
use Rattle.piece_item.specs.declared.take_block.TakeBlock.{TakeBlock}
use Rattle.piece_item.specs.Views.{ack_of, kind_of}
use Rattle.read_ahead.specs.Items.{kinds}
use Rattle.track_playback.specs.declared.playback.TrackPlayback.{TrackPlayback}
use Rattle.track_playback.specs.declared.play_position.PlayPosition.{PlayPosition}
use Rattle.butler.specs.ButlerState.{ButlerState as Butler}
use Rattle.edition_log.specs.EditionState.{EditionState as Edition}
use Rattle.process_ends.specs.Ends.{block_of}
use Rattle.process_cycle.specs.Looked.{LooksAtAll, Keeps}
use Rattle.process_cycle.specs.Playing.{IsPlaying}
use Rattle.process_cycle.specs.ProcessState.{ProcessState, Playing, entered, entries_of, position_of}
use Rattle.worker_pair.specs.declared.ending.Ending.{Ending}
use Rattle.worker_pair.specs.Met.{KnowEachOther}
use Rattle.worker_pair.specs.Tied.{IsTrackOf, AreRingsOf}
use Rattle.worker_pair.proofs.WalkLemmas.{WalksTo, is_free, no_look_up, look_up_to_the_end, look_up_to_the_held, received_fits, received_is}
use Rattle.worker_pair.proofs.LookLemmas.{LooksUp, looks_up}
use Rattle.worker_pair.proofs.LongerLemmas.{generation_longer}

-- ---- one track

-- as many kinds as items
abbrev many_kinds : (items : List Item) → length (kinds items) ≡ length items
many_kinds items = length-map items (λ item. kind_of item.kind)

-- the kinds of two lists, one after the other
abbrev both_kinds : (xs ys : List Item) → kinds (xs ++ ys) ≡ kinds xs ++ kinds ys
both_kinds xs ys = map-append (λ item. kind_of item.kind) xs ys

-- where the core machine plays
abbrev pub place_of : Session → Core → PlayPosition
place_of s c = record { depth = s.depth; generation = playing_generation c; next = playing_block c }

-- the track as the core machine's look-up leaves it
looked_so : (x y : TrackState) (d : Sender Item) (a b : Receiver Item) (k : Sender TakeBlock) (f : Receiver TakeBlock) (more : ℕ) (tails : List ℕ) → IsTrackOf x d a k f → WalksTo x y more tails →
    length b.received ≡ length a.received + more → reverse b.tails ≡ tails ++ reverse a.tails → IsTrackOf y d b k f
looked_so x y d a b k f more tails was walks many noted = record {
  sent = walks.sent ∙ was.sent;
  received = walks.received ∙ ap (λ n. n + more) was.received ∙ sym many;
  tails = walks.tails ∙ ap (λ l. tails ++ l) was.tails ∙ sym noted;
  put = walks.put ∙ was.put;
  flushed = walks.flushed ∙ was.flushed;
  heads = walks.heads ∙ was.heads;
  taking = walks.taking ∙ was.taking;
}

module _ (s : Session) (c : Core) (x : TrackState) (d : Sender Item) (a b : Receiver Item) (k : Sender TakeBlock) (f : Receiver TakeBlock) (was : IsTrackOf x d a k f) (knew : KnowEachOther d a) where
  -- what waited in the ring
  abbrev rest : List Item
  rest = knew.passed.begins.0

  -- what was sent is what was received and what waited
  sent_is : x.sent ≡ reverse (kinds a.received ++ kinds rest)
  sent_is = was.sent ∙ ap (λ l. reverse (kinds l)) (sym knew.passed.begins.1) ∙ ap reverse (both_kinds a.received rest)

  -- so much of it was received
  got_is : x.received ≡ length (kinds a.received)
  got_is = was.received ∙ sym (many_kinds a.received)

  -- no more was received than sent
  pub track_within : x.received ≤ length x.sent
  track_within = received_fits (kinds a.received) (kinds rest) x sent_is got_is

  -- what was received of it, newest first
  pub received_newest : received_of x ≡ reverse (kinds a.received)
  received_newest = received_is (kinds a.received) (kinds rest) x sent_is got_is

  module _ (begins : IsPrefix b.received d.sent) where
    -- what waited is what was taken, and what waits still
    waits_still : (taken : List Kind) → kinds b.received ≡ kinds a.received ++ taken → kinds rest ≡ taken ++ kinds begins.0
    waits_still taken got = append_cancel_left (kinds a.received) (kinds rest) (taken ++ kinds begins.0) (sym (both_kinds a.received rest) ∙ ap kinds (knew.passed.begins.1 ∙ sym begins.1)
        ∙ both_kinds b.received begins.0 ∙ ap (λ l. l ++ kinds begins.0) got ∙ append_assoc (kinds a.received) taken (kinds begins.0))

    -- all that was sent was received
    none_waits : IsPrefix a.heard b.received → begins.0 ≡ []
    none_waits told = nil_from_length begins.0
        (omega (arith, length-append a.heard told.0, ap length told.1, length-append b.received begins.0, ap length begins.1, ap length knew.heard))

    -- how much more was received
    taken_many : (taken : List Kind) → kinds b.received ≡ kinds a.received ++ taken → length b.received ≡ length a.received + length taken
    taken_many taken got = sym (many_kinds b.received) ∙ ap length got ∙ length-append (kinds a.received) taken ∙ ap (λ n. n + length taken) (many_kinds a.received)

    -- **The process's look leaves a track as the core machine's look-up does.**
    pub track_looked : LooksUp (place_of s c) a b → IsTrackOf (looked_fully s c x) d b k f
    track_looked (inl w) = looked_so x (looked_fully s c x) d a b k f 0 [] was (no_look_up s c (kinds a.received) (kinds rest) x sent_is got_is w.first)
        (ap length w.received ∙ plus_none (length a.received)) (ap reverse w.tails)
      where
        plus_none : (n : ℕ) → n ≡ n + 0
        plus_none n = omega arith
    track_looked (inr (inl w)) = looked_so x (looked_fully s c x) d a b k f (length w.free) ((length (kinds a.received) + length w.free) ∷ []) was
        (subst (λ l. WalksTo x (looked_fully s c x) (length l) ((length (kinds a.received) + length l) ∷ [])) free_is
        (look_up_to_the_end s c (kinds a.received) (kinds rest) x sent_is got_is w.first (ap (list_all (is_free s.depth (playing_generation c) (playing_block c))) free_is ∙ w.all_free)))
        (taken_many w.free w.received)
        (ap reverse w.tails ∙ reverse-append a.tails (length b.received ∷ [])
        ∙ ap (λ n. n ∷ reverse a.tails) (taken_many w.free w.received ∙ ap (λ n. n + length w.free) (sym (many_kinds a.received))))
      where
        free_is : kinds rest ≡ w.free
        free_is = waits_still w.free w.received ∙ ap (λ l. w.free ++ kinds l) (none_waits w.told) ∙ append-nil w.free
    track_looked (inr (inr w)) = looked_so x (looked_fully s c x) d a b k f (suc (length w.free)) [] was
        (look_up_to_the_held s c (kinds a.received) w.free w.last (kinds begins.0) x (sent_is ∙ ap (λ l. reverse (kinds a.received ++ l)) rest_is) got_is w.first w.all_free w.is_last)
        (taken_many (w.free ++ w.last ∷ []) w.received ∙ ap (λ n. length a.received + n) (length-append w.free (w.last ∷ []) ∙ one_more (length w.free))) (ap reverse w.tails)
      where
        rest_is : kinds rest ≡ w.free ++ w.last ∷ kinds begins.0
        rest_is = waits_still (w.free ++ w.last ∷ []) w.received ∙ append_assoc w.free (w.last ∷ []) (kinds begins.0)

        one_more : (n : ℕ) → n + 1 ≡ suc n
        one_more n = omega arith

-- ---- all tracks

-- after its look-up each track was looked at
all_looked : (s : Session) (c : Core) (xs : List TrackState) → AllWithin xs → list_all (has_looked s c) (map (looked_fully s c) xs) ≡ true
all_looked s c [] within = refl
all_looked s c (x ∷ xs) within = and_from (has_looked s c (looked_fully s c x)) (list_all (has_looked s c) (map (looked_fully s c) xs))
    (look_up_walks s c x (within 0 x refl)).1 (all_looked s c xs (λ i. within (suc i)))

-- the core machine's state after the look-ups
abbrev pub looked_core : Session → Core → Core
looked_core s c = record c { tracks = map (looked_fully s c) c.tracks }

-- so every look-up is over
pub look_ups_are_over : (s : Session) (cycles : ℕ) (c : Core) → c.in_cycle ≡ true → AllWithin c.tracks → have_looked s (looked_core s c) ≡ true
look_ups_are_over s cycles c open_now within = all_looked s c c.tracks within

module _ {V I W : Type 0} (inputs : SourceOutside I) (at : Playing) (c : Core) (newest e : Edition) (begins : IsPrefix e.edits newest.edits) (b : Butler V) (p q : ProcessState I W) (was : IsPlaying inputs at p)
    (now : IsPlaying inputs (entered e.edits at) q) (keeps : Keeps p q) (looks : LooksAtAll e p q) (edits : c.edits ≡ newest.edits) (entries : c.entries ≡ entries_of p) (playing : c.playing ≡ length e.edits) where
  -- its generation is the core machine's
  generation_is : q.generation ≡ playing_generation c
  generation_is = now.generation ∙ sym (generation_longer e.edits newest.edits begins) ∙ (λ i. generation (sym edits i) (sym playing i))

  -- the process plays where the core machine does
  pub plays_there : position_of q ≡ place_of at.session c
  plays_there = λ i. record { depth = now.depth i; generation = generation_is i; next = next_is i }
    where
      next_is : q.next ≡ playing_block c
      next_is = now.next ∙ ap (λ g. rolled g (entries_of q)) generation_is ∙ ap (rolled (playing_generation c)) (ap entries_of keeps.same ∙ sym entries)

  -- its look at a track, at that place
  pub look_at_track : (t : ℕ) (r r' : Receiver Item) → slice_get p.ends.plays.items t ≡ Some r → slice_get q.ends.plays.items t ≡ Some r' → LooksUp (place_of at.session c) r r'
  look_at_track t r r' at_r at_r' = subst (λ (z : PlayPosition). LooksUp z r r') plays_there
      (subst (λ (z : Receiver Item). LooksUp (position_of q) z r') (get_or_from_slice_get p.ends.plays.items t r r at_r)
      (subst (λ (z : Receiver Item). LooksUp (position_of q) (slice_index_or p.ends.plays.items t r) z) (get_or_from_slice_get q.ends.plays.items t r' r at_r')
      (looks_up (position_of p) (position_of q) (block_of at.session t) (slice_index_or p.ends.plays.items t r) (slice_index_or q.ends.plays.items t r) (slice_index_or p.playbacks t d) (slice_index_or q.playbacks t d)
      (was.depth ∙ sym now.depth) (was.played t r d (omega (arith, within, was.plays))) (looks.looks t r d within))))
    where
      within : t < length p.ends.plays.items
      within = slice_get_within p.ends.plays.items t r at_r

      d : TrackPlayback
      d = (item_at p.playbacks t (omega (arith, within, was.plays, was.playbacks))).0

  -- the rings as the process found them and as it left them, before the ends met
  abbrev pub found : Ending V
  found = record { edition = newest; butler = b; ends = p.ends }

  abbrev pub left : Ending V
  left = record { edition = newest; butler = b; ends = q.ends }

  module _ (rings : AreRingsOf at.session c found) (knew : (t : ℕ) (d : Sender Item) (r : Receiver Item) → slice_get b.ends.sends.items t ≡ Some d → slice_get p.ends.plays.items t ≡ Some r → KnowEachOther d r)
      (of_sent : (t : ℕ) (d : Sender Item) (r : Receiver Item) → slice_get b.ends.sends.items t ≡ Some d → slice_get q.ends.plays.items t ≡ Some r → IsPrefix r.received d.sent) where
    -- the rings of all tracks are those after the look-ups
    pub rings_looked : AreRingsOf at.session (looked_core at.session c) left
    rings_looked = record {
      edits = rings.edits;
      entered = rings.entered;
      many = length-map c.tracks (looked_fully at.session c) ∙ rings.many;
      tracks = λ t y d r k f at_y at_d at_r at_k at_f. let x = of_mapped (looked_fully at.session c) c.tracks t y at_y in
          let r' = also_there q.ends.plays.items p.ends.plays.items t r looks.many at_r in
          let track = rings.tracks t x.0 d r'.0 k f x.1 at_d r'.1 (ap (λ (z : ProcessState I W). slice_get z.ends.takes.items t) (sym keeps.same) ∙ at_k) at_f in
          subst (λ z. IsTrackOf z d r k f) (sym x.2)
          (track_looked at.session c x.0 d r'.0 r k f track (knew t d r'.0 at_d r'.1) (of_sent t d r at_d at_r) (look_at_track t r'.0 r r'.1 at_r));
      acks = rings.acks ∙ ap (λ (z : ProcessState I W). reverse (map ack_of z.ends.to_butler.sent)) (sym keeps.same);
      taken = rings.taken;
      none_read = rings.none_read;
      none_written = rings.none_written;
    }
