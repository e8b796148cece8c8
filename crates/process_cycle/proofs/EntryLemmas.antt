-- What a process that may make a cycle has for it, and the entry with its takes.
use Rattle.std.proofs.Common.{◌≡◌, ℕ, zero, suc, ◌+◌, ◌*◌, ◌<◌, ◌≤◌, List, [], ◌∷◌, length, map, refl, ap, ◌∙◌, sym, subst, slice_index_or, replicate, arith}
use Rattle.std.specs.Prelude.{Bool, true, false, ◌&&◌, ℤ, if◌then◌else◌, slice_get, Some}
use Rattle.std.specs.Option.{option_map_or}
use Rattle.std.proofs.lemmas.Bool.{and_from}
use Rattle.std.proofs.lemmas.List.{length-map, length-reverse, length-replicate}
use Rattle.std.proofs.lemmas.Option.{slice_get_within, get_or_from_slice_get, same_Some, none-some}
use Rattle.ses_io.specs.Outside.{SourceOutside}
use Rattle.session_model.specs.declared.track.Track.{Track}
use Rattle.session_model.specs.Formed.{channels_at}
use Rattle.session_model.specs.Frames.{interleaved}
use Rattle.engine_model.specs.Edits.{generation, has_quit}
use Rattle.engine_model.specs.Editions.{Edition}
use Rattle.engine_model.specs.Fixed.{FixedTrack, fixed_of}
use Rattle.engine_model.specs.Takes.{first_channel}
use Rattle.engine_model.specs.Items.{Kind}
use Rattle.engine_model.specs.Journal as engine
use Rattle.engine_model.specs.Journal.{rolled, is_rolling_in, note_at}
use Rattle.engine_model.specs.Fits.{records, fits_take, next_take}
use Rattle.engine_model.specs.Cycle.{notes_of, play_of, state_of}
use Rattle.engine_model.specs.Made.{fit_takes}
use Rattle.engine_laws.proofs.FixedLemmas.{many_tracks, channels_stay, fixed_track}
use Rattle.engine_laws.proofs.ListLemmas.{item_at}
use Rattle.engine_laws.proofs.PlayedLemmas.{fixed_stands}
use Rattle.edition_log.specs.EditionState as log
use Rattle.edition_log.proofs.PlayLaws.{editions_play_their_places}
use Rattle.disk_ring.specs.Receiver.{Receiver}
use Rattle.disk_ring.specs.Sender.{Sender}
use Rattle.piece_item.specs.declared.item.Item.{Item}
use Rattle.piece_item.specs.declared.take_block.TakeBlock.{TakeBlock}
use Rattle.cycle_journal.specs.declared.entry.Entry.{Entry}
use Rattle.cycle_journal.specs.declared.note.Note.{Note}
use Rattle.cycle_journal.specs.JournalView.{seen_entry, seen_note, seen_play, seen_take}
use Rattle.track_capture.specs.declared.capture.TrackCapture.{TrackCapture}
use Rattle.track_capture.specs.Counted.{Counts, FitsRing}
use Rattle.track_capture.specs.Picked.{picked, sample_of}
use Rattle.track_playback.specs.declared.playback.TrackPlayback.{TrackPlayback}
use Rattle.track_playback.specs.declared.play_position.PlayPosition.{PlayPosition}
use Rattle.track_playback.specs.Heard.{AreHeard, IsStillHeld, entry_made}
use Rattle.track_playback.specs.Played.{IsPlayed}
use Rattle.track_playback.specs.SpareBoxes.{received_kinds}
use Rattle.process_cycle.specs.Cycles.{MayCycle}
use Rattle.process_ends.specs.Ends.{HaveRooms, block_of}
use Rattle.process_cycle.specs.Making.{AllCaptured}
use Rattle.process_cycle.specs.Playing.{IsRecorded}
use Rattle.process_cycle.specs.ProcessState.{ProcessState, Playing, entries_of, position_of}

-- ---- notes

-- as many notes as tracks
notes_long : (state : engine.State) (tracks : List (List Kind)) (takes : List engine.Take) → length takes ≡ length tracks → length (notes_of state tracks takes) ≡ length tracks
notes_long state [] takes is = refl
notes_long state (xs ∷ tracks) [] is = absurd (omega (arith, is))
notes_long state (xs ∷ tracks) (take ∷ takes) is = ap suc (notes_long state tracks takes (omega (arith, is)))

pub off_notes_long : (state : engine.State) (tracks : List (List Kind)) (n : ℕ) → length tracks ≡ n → length (notes_of state tracks (replicate n engine.Off)) ≡ n
off_notes_long state tracks n is = notes_long state tracks (replicate n engine.Off) (length-replicate n engine.Off ∙ sym is) ∙ is

-- the entry of a cycle has a note of each track
pub first_notes : (number : ℕ) (rolling : Bool) (on : PlayPosition) (plays : List (Receiver Item)) (first : Entry) → seen_entry first ≡ entry_made number rolling on plays → length first.notes.items ≡ length plays
first_notes number rolling on plays first seen = sym (length-map first.notes.items seen_note) ∙ ap (λ x. length x.notes) seen
    ∙ off_notes_long (state_of rolling on.generation on.next (map received_kinds plays)) (map received_kinds plays) (length plays) (length-map plays received_kinds)

abbrev pub takes_of : List Note → List engine.Take
takes_of notes = map (λ note. seen_take note.take) notes

-- with their takes the notes are those of the tracks, where each plays as before
pub notes_with : (state : engine.State) (tracks : List (List Kind)) (n : ℕ) (olds news : List Note) → length tracks ≡ n → map seen_note olds ≡ notes_of state tracks (replicate n engine.Off) →
    length news ≡ length olds → ((t : ℕ) (was noted : Note) → slice_get olds t ≡ Some was → slice_get news t ≡ Some noted → noted.play ≡ was.play) → map seen_note news ≡ notes_of state tracks (takes_of news)
notes_with state [] n [] [] long are same plays = refl
notes_with state [] n (o ∷ olds) news long are same plays = absurd (omega (arith, ap length are))
notes_with state tracks n [] (x ∷ news) long are same plays = absurd (omega (arith, same))
notes_with state (xs ∷ tracks) zero olds news long are same plays = absurd (omega (arith, long))
notes_with state (xs ∷ tracks) (suc n) [] [] long are same plays = absurd (omega (arith, ap length are))
notes_with state (xs ∷ tracks) (suc n) (o ∷ olds) [] long are same plays = absurd (omega (arith, same))
notes_with state (xs ∷ tracks) (suc n) (o ∷ olds) (x ∷ news) long are same plays = let first = plays 0 o x refl refl in
    let head : seen_note o ≡ record { play = play_of state xs; take = engine.Off } = ap (λ l. note_at 0 l) are in
    ap (λ (p : engine.Play). record { play = p; take = seen_take x.take } ∷ map seen_note news) (ap seen_play first ∙ ap (λ (k : engine.Note). k.play) head)
    ∙ ap (λ l. record { play = play_of state xs; take = seen_take x.take } ∷ l) (notes_with state tracks n olds news (omega (arith, long)) (ap tail_of are) (omega (arith, same)) (λ t was noted a b. plays (suc t) was noted a b))
  where
    tail_of : List engine.Note → List engine.Note
    tail_of [] = []
    tail_of (k ∷ ks) = ks

-- a note by its place
pub note_there : (notes : List Note) (t : ℕ) (note : Note) → slice_get notes t ≡ Some note → note_at t (map seen_note notes) ≡ seen_note note
note_there [] t note is = absurd (none-some note is)
note_there (x ∷ notes) zero note is = ap seen_note (same_Some x note is)
note_there (x ∷ notes) (suc t) note is = note_there notes t note is

-- the takes fit where each does
pub takes_fit : (now : Edition) (rolling : Bool) (before : List engine.Entry) (t : ℕ) (notes : List Note) →
    ((i : ℕ) (note : Note) → slice_get notes i ≡ Some note → fits_take (rolling && records now (t + i)) (next_take (t + i) before) (seen_take note.take) ≡ true) →
    fit_takes now rolling before t (takes_of notes) ≡ true
takes_fit now rolling before t [] each = refl
takes_fit now rolling before t (x ∷ notes) each = and_from (fits_take (rolling && records now t) (next_take t before) (seen_take x.take)) (fit_takes now rolling before (suc t) (takes_of notes))
    (subst (λ k. fits_take (rolling && records now k) (next_take k before) (seen_take x.take) ≡ true) {x = t + 0} {y = t} (omega arith) (each 0 x refl))
    (takes_fit now rolling before (suc t) notes (λ i note at. subst (λ k. fits_take (rolling && records now k) (next_take k before) (seen_take note.take) ≡ true) {x = t + suc i} {y = suc t + i} (omega arith) (each (suc i) note at)))

-- ---- the position

pub rolled_few : (g : ℕ) (es : List engine.Entry) → rolled g es ≤ length es
rolled_few g [] = omega arith
rolled_few g (x ∷ es) = by (is_rolling_in g x.state) (rolled_few g es)
  where
    by : (b : Bool) → rolled g es ≤ length es → (if b then suc (rolled g es) else rolled g es) ≤ suc (length es)
    by true few = omega (arith, few)
    by false few = omega (arith, few)

pub entries_many : {I W : Type 0} (p : ProcessState I W) → length (entries_of p) ≡ length p.journal.items
entries_many p = length-reverse (map seen_entry p.journal.items) ∙ length-map p.journal.items seen_entry

-- ---- a process that may make a cycle

-- the first channel that a track records is told by what no edit changes
input_stays : (ks : List Track) (t : ℕ) → option_map_or (λ (k : Track). option_map_or (λ c. c) k.input 0) (slice_get ks t) 0
    ≡ option_map_or (λ (f : FixedTrack). option_map_or (λ c. c) f.input 0) (slice_get (map fixed_track ks) t) 0
input_stays [] t = refl
input_stays (k ∷ ks) zero = refl
input_stays (k ∷ ks) (suc t) = input_stays ks t

module _ {I W : Type 0} (inputs : SourceOutside I) (at : Playing) (e : log.EditionState) (p : ProcessState I W) (may : MayCycle inputs at e p) where
  same_fixed : fixed_of e.session ≡ fixed_of at.session
  same_fixed = ap (λ x. fixed_of x.session) may.edition.state ∙ fixed_stands at.session e.edits (length e.edits)

  pub tracks_same : length e.session.tracks.items ≡ length at.session.tracks.items
  tracks_same = many_tracks at.session e.session same_fixed

  pub frames_same : e.session.block ≡ at.session.block
  frames_same = ap (λ x. x.block) same_fixed

  pub block_same : (t : ℕ) → block_of e.session t ≡ block_of at.session t
  block_same t = ap (λ b. b * channels_at e.session t) frames_same ∙ ap (λ c. at.session.block * c) (channels_stay at.session e.session same_fixed t)

  -- what is captured of a block of the input
  pub picked_same : (t channels : ℕ) (input : List ℤ) → picked e.session t channels input ≡ picked at.session t channels input
  picked_same t channels input = let wide = channels_at e.session t in
      ap (λ f. interleaved (λ i k. sample_of channels input i (f + k)) wide 0 (e.session.block * wide)) (input_stays e.session.tracks.items t
      ∙ ap (λ x. option_map_or (λ (f : FixedTrack). option_map_or (λ c. c) f.input 0) (slice_get x.tracks t) 0) same_fixed ∙ sym (input_stays at.session.tracks.items t))
      ∙ ap (λ w. interleaved (λ i k. sample_of channels input i (first_channel at.session t + k)) w 0 (e.session.block * w)) (channels_stay at.session e.session same_fixed t)
      ∙ ap (λ b. interleaved (λ i k. sample_of channels input i (first_channel at.session t + k)) (channels_at at.session t) 0 (b * channels_at at.session t)) frames_same

  pub unended : has_quit e.edits (length e.edits) ≡ false
  unended = sym (editions_play_their_places at.session e may.edition).quit ∙ may.unended

  pub generation_is : p.generation ≡ generation e.edits (length e.edits)
  generation_is = may.playing.generation ∙ ap (λ edits. generation edits (length edits)) (sym may.given)

  pub generation_told : p.generation ≡ e.transport.generation
  generation_told = generation_is ∙ sym (editions_play_their_places at.session e may.edition).counted

  pub entries_few : length (entries_of p) < 100000
  entries_few = omega (arith, entries_many p, may.room, may.playing.cycles)

  pub next_few : p.next < 100000
  next_few = omega (arith, may.playing.next, rolled_few p.generation (entries_of p), entries_few)

  played_at : (t : ℕ) (r : Receiver Item) (d : TrackPlayback) → slice_get p.ends.plays.items t ≡ Some r → slice_get p.playbacks t ≡ Some d → IsPlayed (position_of p) (block_of at.session t) r d
  played_at t r d at_r at_d = subst (λ x. IsPlayed (position_of p) (block_of at.session t) x d) (get_or_from_slice_get p.ends.plays.items t r r at_r)
      (subst (IsPlayed (position_of p) (block_of at.session t) (slice_index_or p.ends.plays.items t r)) (get_or_from_slice_get p.playbacks t d d at_d)
      (may.playing.played t r d (omega (arith, slice_get_within p.playbacks t d at_d, may.playing.playbacks))))

  heard_there : AreHeard (position_of p) p.ends.plays.items p.playbacks
  heard_there = record {
    some = omega (arith, may.playing.depth, may.playing.valid.formed.limits.depth.least);
    count = may.playing.playbacks ∙ sym may.playing.plays;
    each = λ t r d at_r at_d. record {
      samples = block_of at.session t;
      played = played_at t r d at_r at_d;
      held = subst (λ k. IsStillHeld (position_of p) k.spare) (get_or_from_slice_get p.playbacks t d d at_d) (may.looked.held t d (slice_get_within p.playbacks t d at_d));
    };
  }

  -- what is heard of each track
  pub are_heard : (on : PlayPosition) (plays : List (Receiver Item)) (playbacks : List TrackPlayback) → on ≡ position_of p → plays ≡ p.ends.plays.items → playbacks ≡ p.playbacks → AreHeard on plays playbacks
  are_heard on plays playbacks there those these = subst (λ x. AreHeard x plays playbacks) (sym there)
      (subst (λ x. AreHeard (position_of p) x playbacks) (sym those) (subst (AreHeard (position_of p) p.ends.plays.items) (sym these) heard_there))

  pub few_tracks : (playbacks : List TrackPlayback) → playbacks ≡ p.playbacks → length playbacks ≤ 32
  few_tracks playbacks are = omega (arith, ap length are, may.playing.playbacks, may.playing.valid.formed.limits.tracks)

  -- the rooms of the rings
  pub have_rooms : (plays : List (Receiver Item)) → plays ≡ p.ends.plays.items → HaveRooms at.session plays
  have_rooms plays are t r at_r = let here = sym (ap (λ l. slice_get l t) are) ∙ at_r in
      let d = item_at p.playbacks t (omega (arith, slice_get_within p.ends.plays.items t r here, may.playing.plays, may.playing.playbacks)) in (played_at t r d.0 here d.1).room

  pub recorded_at : (t : ℕ) (k : TrackCapture) (d : Sender TakeBlock) → slice_get p.captures t ≡ Some k → slice_get p.ends.takes.items t ≡ Some d → IsRecorded at.session t p k d
  recorded_at t k d at_k at_d = subst (λ x. IsRecorded at.session t p x d) (get_or_from_slice_get p.captures t k k at_k)
      (subst (IsRecorded at.session t p (slice_index_or p.captures t k)) (get_or_from_slice_get p.ends.takes.items t d d at_d)
      (may.playing.recorded t d k (omega (arith, slice_get_within p.captures t k at_k, may.playing.captures))))

  -- how the takes of each track are counted
  pub all_counted : (before : List engine.Entry) (captures : List TrackCapture) → before ≡ entries_of p → captures ≡ p.captures → (t : ℕ) (k : TrackCapture) → slice_get captures t ≡ Some k → Counts before t k
  all_counted before captures those these t k at_k = let here = sym (ap (λ l. slice_get l t) these) ∙ at_k in
      let d = item_at p.ends.takes.items t (omega (arith, slice_get_within p.captures t k here, may.playing.captures, may.playing.takes)) in
      subst (λ es. Counts es t k) (sym those) (recorded_at t k d.0 here d.1).counts

  -- and the ring of each
  pub all_fit : (captures : List TrackCapture) (rings : List (Sender TakeBlock)) → captures ≡ p.captures → rings ≡ p.ends.takes.items → (t : ℕ) (k : TrackCapture) (d : Sender TakeBlock) →
      slice_get captures t ≡ Some k → slice_get rings t ≡ Some d → FitsRing (block_of e.session t) k d
  all_fit captures rings these those t k d at_k at_d = subst (λ n. FitsRing n k d) (sym (block_same t))
      (recorded_at t k d (sym (ap (λ l. slice_get l t) these) ∙ at_k) (sym (ap (λ l. slice_get l t) those) ∙ at_d)).fits

-- ---- captured tracks, told otherwise

pub captured_again : (e : log.EditionState) (rolls rolls' : Bool) (before before' : List engine.Entry) (channels channels' : ℕ) (input input' : List ℤ) (ks ks' : List TrackCapture)
    (was was' noted noted' : List Note) (ds ds' fs fs' : List (Sender TakeBlock)) → rolls ≡ rolls' → before ≡ before' → channels ≡ channels' → input ≡ input' → ks ≡ ks' → was ≡ was' → noted ≡ noted' → ds ≡ ds' → fs ≡ fs' →
    AllCaptured e rolls before channels input ks was noted ds fs → AllCaptured e rolls' before' channels' input' ks' was' noted' ds' fs'
captured_again e rolls rolls' before before' channels channels' input input' ks ks' was was' noted noted' ds ds' fs fs' a b c d f g h i j all =
    subst (λ x. AllCaptured e x before' channels' input' ks' was' noted' ds' fs') a (subst (λ x. AllCaptured e rolls x channels' input' ks' was' noted' ds' fs') b
    (subst (λ x. AllCaptured e rolls before x input' ks' was' noted' ds' fs') c (subst (λ x. AllCaptured e rolls before channels x ks' was' noted' ds' fs') d
    (subst (λ x. AllCaptured e rolls before channels input x was' noted' ds' fs') f (subst (λ x. AllCaptured e rolls before channels input ks x noted' ds' fs') g
    (subst (λ x. AllCaptured e rolls before channels input ks was x ds' fs') h (subst (λ x. AllCaptured e rolls before channels input ks was noted x fs') i
    (subst (λ x. AllCaptured e rolls before channels input ks was noted ds x) j all))))))))
