-- The blocks that were put for a lawful entry make the block of the master that it stands for.
use Rattle.std.proofs.Common.{◌≡◌, ◌⊎◌, inl, inr, ℕ, ◌+◌, ◌-◌, ◌*◌, ◌<◌, ◌≤◌, ℤ, pos, List, [], ◌∷◌, ◌++◌, length, map, take, drop, replicate, refl, sym, ap, ap₂, subst, ◌∙◌, arith}
use Rattle.std.proofs.Math.Path.{fun_ext}
use Rattle.std.specs.Prelude.{true, false, ◌&&◌, Some, slice_get, slice_index_or}
use Rattle.std.proofs.lemmas.Bool.{eq-eqb, true≢false}
use Rattle.std.proofs.lemmas.List.{length-map, length-take-le, take-append-drop}
use Rattle.std.proofs.lemmas.List.Elements.{All-cons, All-nil}
use Rattle.std.proofs.lemmas.Option.{get_or_from_slice_get, slice_get_within}
use Rattle.sound_model.specs.Regions.{Sounds}
use Rattle.sound_model.specs.Layers.{track_sample}
use Rattle.sound_model.specs.Routes.{master_sample}
use Rattle.sound_model.specs.Wav.{sound_bytes}
use Rattle.ses_units.specs.Bits.{bits_of}
use Rattle.session_model.specs.declared.session.Session.{Session}
use Rattle.session_model.specs.declared.edit.Edit.{Edit}
use Rattle.session_model.specs.Formed.{channels_at}
use Rattle.session_model.specs.Frames.{interleaved}
use Rattle.session_model.specs.Valid.{IsValid}
use Rattle.session_model.specs.Views.{routes_of, track_regions}
use Rattle.engine_model.specs.Cycle.{entry_of, notes_of, rolling_state, state_of}
use Rattle.engine_model.specs.Edits.{generation}
use Rattle.engine_model.specs.Editions.{edition}
use Rattle.engine_model.specs.Fits.{fits_play, is_lawful_newest}
use Rattle.engine_model.specs.Items.{Item}
use Rattle.engine_model.specs.Journal.{Entry, Heard, Note, Play, Rolling, Seeking, Short, Silent, State, Stopped, Take, is_rolling, note_at, note_of, rolled}
use Rattle.engine_model.specs.Mixed.{mixed_in, newest_samples, received_sample}
use Rattle.engine_model.specs.Played.{IsGenuine, Samples, block, block_in, heard, master_channels, samples_of}
use Rattle.engine_model.specs.Transport.{place, place_of}
use Rattle.engine_laws.specs.EditionLaws.{PlaysIts}
use Rattle.engine_laws.specs.PlayedLaws.{IsOfTrack}
use Rattle.engine_laws.proofs.EditionLemmas.{edition_stays}
use Rattle.engine_laws.proofs.Laws.{editions_play_their_generation}
use Rattle.engine_laws.proofs.MixedLemmas.{genuine_pieces_make_the_block}
use Rattle.engine_laws.proofs.NumberLemmas.{count_stays}
use Rattle.engine_laws.proofs.PlaceLemmas.{place_stays}
use Rattle.engine_model.specs.Edits.{starts}
use Rattle.locate_loop.specs.Transport.{transport_of}
use Rattle.edition_log.specs.EditionState.{EditionState, IsEditionOf}
use Rattle.cycle_journal.specs.declared.entry.State as code_state
use Rattle.cycle_journal.specs.declared.entry.State.TheVariants as code
use Rattle.cycle_journal.specs.JournalView.{seen_state}
use Rattle.master_blocks.specs.Bytes.{entry_bytes, silent_bytes}
use Rattle.master_blocks.specs.Rolled.{ArePut, rolled_bytes}
use Rattle.master_blocks.specs.Rolled as master
use Rattle.heard_blocks.specs.State.{HeardState, RollsAt}
use Rattle.heard_blocks.specs.Playing.{IsPlayed, PutsTracks, playing, put_block, track_samples}
use Rattle.heard_blocks.proofs.EntryLemmas.{each_noted, play_fits, rolls_next, stands}
use Rattle.heard_blocks.proofs.PieceLemmas.{as_noted, items_at, items_of, kinds_of, newest_is, rolls_by, silence_at, tracks_long, tracks_of}

-- ---- a lawful entry that rolls

module _ (s : Session) (edits : List Edit) (before : List Entry) (e : Entry) (lawful : is_lawful_newest s edits (e ∷ before) ≡ true)
    (now : EditionState) (of : IsEditionOf s now) (first : now.edits ≡ take e.edition edits) (g0 n : ℕ) (rolls : e.state ≡ Rolling g0 n) where
  abbrev g : ℕ
  g = now.transport.generation

  long : length now.edits ≡ e.edition
  long = ap length first ∙ length-take-le e.edition edits (stands s edits before e lawful)

  all_edits : now.edits ++ drop e.edition edits ≡ edits
  all_edits = ap (λ es. es ++ drop e.edition edits) first ∙ take-append-drop e.edition edits

  plays : PlaysIts s now.edits (length now.edits)
  plays = editions_play_their_generation s now.edits (length now.edits) of.accepted (omega arith)

  counted : g ≡ generation now.edits (length now.edits)
  counted = ap (λ x. x.transport.generation) of.state ∙ plays.counted

  generation_is : g ≡ generation edits e.edition
  generation_is = counted ∙ sym (count_stays starts now.edits (drop e.edition edits) (length now.edits) (omega arith)) ∙ ap (λ es. generation es (length now.edits)) all_edits ∙ ap (generation edits) long

  same_generation : g0 ≡ g
  same_generation = (rolls_next s edits before e lawful g0 n rolls).1 ∙ sym generation_is

  state_is : e.state ≡ Rolling g n
  state_is = rolls ∙ ap (λ m. Rolling m n) same_generation

  same_edition : edition s now.edits (length now.edits) ≡ edition s edits e.edition
  same_edition = sym (edition_stays s now.edits (drop e.edition edits) (length now.edits) (omega arith)) ∙ ap (λ es. edition s es (length now.edits)) all_edits ∙ ap (edition s edits) long

  place_is : (i : ℕ) → place now.edits g i ≡ place edits g i
  place_is i = sym (place_stays now.edits (drop e.edition edits) g i (subst (λ m. g ≤ m) counted (omega arith))) ∙ ap (λ es. place es g i) all_edits

  placed : (i : ℕ) → place_of (transport_of now.transport) i ≡ place edits g i
  placed i = ap (λ x. place_of x.transport i) of.state ∙ plays.places i ∙ ap (λ m. place now.edits m i) (sym counted) ∙ place_is i

  module _ (told : Type 0) (sounds : Sounds) (old h : HeardState) (put : PutsTracks told (playing s edits sounds now n) (λ t. (note_of t e).play) (length s.tracks.items) old h) where
    abbrev inputs : List (List ℤ)
    inputs = h.master.desk.inputs

    -- the pieces of all tracks
    abbrev pub tracks : List (List Item)
    tracks = tracks_of g n inputs 0 e.notes

    abbrev pub on_desk : master.Heard
    on_desk = record { session = s; tracks = tracks }

    items_is : (t : ℕ) → slice_index_or tracks t [] ≡ items_of t g n (put_block h t) (note_of t e).play
    items_is t = items_at g n inputs 0 t e.notes ∙ ap (λ u. items_of u g n (slice_index_or inputs u []) (note_at t e.notes).play) {x = 0 + t} {y = t} (omega arith)

    pub are_put : ArePut on_desk g n inputs
    are_put t k lt = by_play (note_of t e).play (put.played t lt) ∙ ap (λ xs. slice_index_or (newest_samples g n xs) k (pos 0)) (sym (items_is t))
      where
        by_play : (play : Play) → IsPlayed told (playing s edits sounds now n) t play (put_block h t) →
            slice_index_or (put_block h t) k (pos 0) ≡ slice_index_or (newest_samples g n (items_of t g n (put_block h t) play)) k (pos 0)
        by_play (Heard p) is = ap (λ xs. slice_index_or xs k (pos 0)) (sym (newest_is t g n p (put_block h t)))
        by_play Silent is = ap (λ xs. slice_index_or xs k (pos 0)) is ∙ silence_at (track_samples s t) k
        by_play (Short tail) is = ap (λ xs. slice_index_or xs k (pos 0)) is ∙ silence_at (track_samples s t) k

    module _ (is : told) (valid : IsValid now.session) where
      abbrev samples : Samples
      samples = samples_of sounds s edits

      abbrev takes : List Take
      takes = map (λ (note : Note). note.take) e.notes

      abbrev made : Entry
      made = entry_of s edits before (map kinds_of tracks) takes e.edition

      genuine : (t : ℕ) → t < length s.tracks.items → IsOfTrack s edits samples t (items_of t g n (put_block h t) (note_of t e).play)
      genuine t lt = by_play (note_of t e).play (put.played t lt)
        where
          by_play : (play : Play) → IsPlayed told (playing s edits sounds now n) t play (put_block h t) → IsOfTrack s edits samples t (items_of t g n (put_block h t) play)
          by_play (Heard p) its = record {
            named = ap (λ b. b && true) (eq-eqb t t refl);
            genuine = All-cons (IsGenuine s edits samples) _ [] (its is ∙ ap (λ f. interleaved (λ i c. track_sample sounds (track_regions (edition s edits p).session t) c (f i)) (channels_at s t) (n * s.block)
                (s.block * channels_at s t)) (fun_ext placed)) (All-nil (IsGenuine s edits samples));
          }
          by_play Silent its = record { named = refl; genuine = All-nil (IsGenuine s edits samples) }
          by_play (Short tail) its = record { named = refl; genuine = All-nil (IsGenuine s edits samples) }

      many : length tracks ≡ length s.tracks.items
      many = tracks_long g n inputs 0 e.notes ∙ each_noted s edits before e lawful

      each : (t : ℕ) (items : List Item) → slice_get tracks t ≡ Some items → IsOfTrack s edits samples t items
      each t items there = subst (IsOfTrack s edits samples t) (sym (items_is t) ∙ get_or_from_slice_get tracks t items [] there)
          (genuine t (subst (λ m. t < m) many (slice_get_within tracks t items there)))

      noted : (i : ℕ) → i < length e.notes → fits_play true n (note_at i e.notes).play ≡ true
      noted i lt = ap (λ b. fits_play b n (note_at i e.notes).play) (sym (ap is_rolling rolls))
          ∙ ap (λ m. fits_play (is_rolling e.state) m (note_at i e.notes).play) (rolls_next s edits before e lawful g0 n rolls).2
          ∙ play_fits s edits before e lawful i (subst (λ m. i < m) (each_noted s edits before e lawful) lt)

      made_rolls : made.state ≡ Rolling g n
      made_rolls = ap (λ b. state_of b (generation edits e.edition) (rolled (generation edits e.edition) before) (map kinds_of tracks)) (rolls_next s edits before e lawful g0 n rolls).0
          ∙ ap₂ (λ m k. rolling_state m k (map kinds_of tracks)) (sym generation_is) (sym (rolls_next s edits before e lawful g0 n rolls).2)
          ∙ rolls_by g n inputs e.notes noted

      same_heard : (u c x : ℕ) → heard samples u c x (note_of u made).play ≡ heard samples u c x (note_of u e).play
      same_heard u c x = ap (λ state. heard samples u c x (note_at u (notes_of state (map kinds_of tracks) takes)).play) made_rolls ∙ as_noted samples g n u c x inputs 0 u e.notes

      -- the block of the pieces is that of the entry
      entry_is : mixed_in s edits tracks e.edition (Rolling g n) ≡ block s edits samples e
      entry_is = ap (mixed_in s edits tracks e.edition) (sym made_rolls)
          ∙ genuine_pieces_make_the_block s edits samples before tracks takes e.edition (subst IsValid (ap (λ x. x.session) (of.state ∙ same_edition)) valid) many (length-map e.notes (λ (note : Note). note.take) ∙ sym (tracks_long g n inputs 0 e.notes)) each
          ∙ ap (block_in s edits samples made) made_rolls
          ∙ ap (λ f. interleaved (λ i c. master_sample (routes_of (edition s edits e.edition).session) (λ t k. f t k (place edits g i)) (place edits g i) c) (master_channels s) (n * s.block) (s.block * master_channels s))
          (fun_ext (λ u. fun_ext (λ c. fun_ext (λ x. same_heard u c x))))
          ∙ ap (block_in s edits samples e) (sym state_is)

      mixed_same : mixed_in s now.edits tracks (length now.edits) (Rolling g n) ≡ mixed_in s edits tracks e.edition (Rolling g n)
      mixed_same = ap (λ x. interleaved (λ i c. master_sample (routes_of x.session) (received_sample s tracks g n (i - n * s.block)) (place now.edits g i) c) (master_channels s) (n * s.block) (s.block * master_channels s)) same_edition
          ∙ ap (λ f. interleaved (λ i c. master_sample (routes_of (edition s edits e.edition).session) (received_sample s tracks g n (i - n * s.block)) (f i) c) (master_channels s) (n * s.block) (s.block * master_channels s))
          (fun_ext place_is)

      -- so its bytes are the entry's
      pub bytes_are : rolled_bytes on_desk now n ≡ entry_bytes s edits samples e
      bytes_are = ap (sound_bytes (bits_of s.bits)) (mixed_same ∙ entry_is)

-- ---- an entry that doesn't roll

pub rolls_at : (state : State) (seq : ℕ) → RollsAt state seq → (g : ℕ) × (state ≡ Rolling g seq)
rolls_at (Rolling g n) seq is = (g, ap (Rolling g) is)
rolls_at (Seeking t tail) seq is = absurd is
rolls_at Stopped seq is = absurd is

rests : (s : Session) (edits : List Edit) (sampled : Samples) (e : Entry) (state : State) → is_rolling state ≡ false → block_in s edits sampled e state ≡ replicate (s.block * master_channels s) (pos 0)
rests s edits sampled e (Rolling g n) is = absurd (true≢false is)
rests s edits sampled e (Seeking t tail) is = refl
rests s edits sampled e Stopped is = refl

pub rest_bytes : (s : Session) (edits : List Edit) (sampled : Samples) (e : Entry) → is_rolling e.state ≡ false → silent_bytes s 1 ≡ entry_bytes s edits sampled e
rest_bytes s edits sampled e is = ap (λ n. sound_bytes (bits_of s.bits) (replicate n (pos 0))) {x = 1 * (s.block * master_channels s)} {y = s.block * master_channels s} (omega arith)
    ∙ ap (sound_bytes (bits_of s.bits)) (sym (rests s edits sampled e e.state is))

-- the state of an entry of a journal
pub rests_at : (state : code_state.State) → (state ≡ code.Stopped) ⊎ ((t : ℕ) × (tail : ℕ) × (state ≡ code.Seeking t tail)) → is_rolling (seen_state state) ≡ false
rests_at state (inl is) = ap (λ x. is_rolling (seen_state x)) is
rests_at state (inr is) = ap (λ x. is_rolling (seen_state x)) is.2
