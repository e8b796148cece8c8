-- A process that is new plays its session.
use Rattle.std.proofs.Common.{◌≡◌, ℕ, ◌<◌, ◌≤◌, List, [], ◌∷◌, ◌++◌, length, refl, ap, ◌∙◌, sym, subst, slice_index_or, arith}
use Rattle.std.specs.Prelude.{map, reverse, slice_get, Some, Option}
use Rattle.std.specs.Option.{option_map_or}
use mathlib.Core.Logic.{dite}
use native.Mathlib.Decide.{ℕ_discrete}
use Rattle.std.proofs.lemmas.List.{length_push, get_or_push, get_or_append_left}
use Rattle.std.proofs.lemmas.Option.{slice_get_read, slice_get_within, slice_get-get_or, get_or_from_slice_get}
use Rattle.ses_io.specs.FixedList.{Listed}
use Rattle.ses_io.specs.Outside.{SourceOutside, SinkOutside}
use Rattle.session_model.specs.declared.route.Route.{Route}
use Rattle.session_model.specs.declared.session.Session.{Session}
use Rattle.session_model.specs.Formed.{channels_at}
use Rattle.session_model.specs.Valid.{IsValid}
use Rattle.disk_ring.specs.Receiver.{Receiver}
use Rattle.disk_ring.specs.Sender.{Sender}
use Rattle.piece_item.specs.declared.item.Item.{Item}
use Rattle.piece_item.specs.Views.{item_of}
use Rattle.cycle_journal.specs.declared.entry.Entry.{Entry}
use Rattle.capture_flush.specs.Blocks as flush
use Rattle.wav_codec.specs.declared.info.WavInfo.{WavInfo}
use Rattle.input_blocks.specs.Rest.{rest_sound, stream_told}
use Rattle.input_blocks.specs.State.{InputState, IsReadTo, from_here}
use Rattle.master_blocks.specs.State.{MasterState, IsMasterOf}
use Rattle.track_capture.specs.declared.capture.TrackCapture.{TrackCapture}
use Rattle.track_capture.specs.Counted.{Counts, HasBox}
use Rattle.track_playback.specs.declared.playback.SpareBox.{SpareBox}
use Rattle.track_playback.specs.declared.playback.SpareBox.TheVariants.{Husk, Held, Lent}
use Rattle.track_playback.specs.declared.playback.TrackPlayback.{TrackPlayback}
use Rattle.track_playback.specs.SpareBoxes.{IsHusk, HasRoom, HoldsTheLast, offers}
use Rattle.track_playback.specs.Played.{IsNewPlayback, IsPlayed, KnowsTheEnds}
use Rattle.process_ends.specs.declared.ends.ProcessEnds.{ProcessEnds}
use Rattle.process_ends.specs.Ends.{AreNew, IsNewOut, IsNewIn, block_of}
use Rattle.process_cycle.specs.ProcessState.{ProcessState, Playing}
use Rattle.process_cycle.specs.Playing.{IsOpenIn, HasBegun}
use Rattle.process_cycle.proofs.PromiseLemmas.{promises_first}

-- the channels of a track are those of its route
pub channels_here : (s : Session) (t : ℕ) (q : Route) → t < length s.routes.items → q ≡ slice_index_or s.routes.items t q → channels_at s t ≡ q.channels
channels_here s t q within is = ap (λ o. option_map_or (λ r. r.channels) o 0) (slice_get_read s.routes.items (length s.routes.items) t q refl within is)

-- what holds of each item and of one more holds of each item of the longer list
pub each_and_last : {X : Type 0} (P : ℕ → X → Type 0) (xs : List X) (x : X) → ((t : ℕ) (y : X) → slice_get xs t ≡ Some y → P t y) → P (length xs) x
    → (t : ℕ) (y : X) → slice_get (xs ++ x ∷ []) t ≡ Some y → P t y
each_and_last P xs x each last t y there = let within = slice_get_within (xs ++ x ∷ []) t y there in let is = get_or_from_slice_get (xs ++ x ∷ []) t y y there in dite (ℕ_discrete t (length xs))
    (λ e. subst (λ k. P k y) (sym e) (subst (P (length xs)) (sym (get_or_push xs x y (length xs) refl) ∙ ap (λ k. slice_index_or (xs ++ x ∷ []) k y) (sym e) ∙ is) last))
    (λ other. let near : t < length xs = omega (arith, within, length_push xs x, other) in
    each t y (slice_get-get_or xs t y near ∙ ap Some (sym (get_or_append_left xs (x ∷ []) y t near) ∙ is)))

-- ---- a track through whose ring nothing went

husk_fits : (samples : ℕ) (spare : SpareBox) → IsHusk samples spare → HasRoom samples spare
husk_fits samples (Husk b) is = is
husk_fits samples (Held b) is = absurd is
husk_fits samples Lent is = absurd is

husk_holds : (samples : ℕ) (spare : SpareBox) (r : Receiver Item) → IsHusk samples spare → HoldsTheLast r spare
husk_holds samples (Husk b) r is = refl
husk_holds samples (Held b) r is = absurd is
husk_holds samples Lent r is = absurd is

husk_offers : (samples : ℕ) (spare : SpareBox) (r : Receiver Item) → IsHusk samples spare → r.received ≡ [] → [] ≡ offers r spare
husk_offers samples (Husk b) r is none = ap (λ xs. reverse (map item_of xs)) (sym none)
husk_offers samples (Held b) r is none = absurd is
husk_offers samples Lent r is none = absurd is

new_is_played : (depth samples : ℕ) (r : Receiver Item) (d : TrackPlayback) → IsNewOut depth samples r → IsNewPlayback depth samples d → IsPlayed (record { depth = depth; generation = 0; next = 0 }) samples r d
new_is_played depth samples r d out is = let window = is.window in record {
  depth = out.depth;
  window_depth = is.depth;
  room = out.room;
  window_room = is.room;
  spare = husk_fits samples d.spare is.spare;
  until = record { generation = omega (arith, window.generation); block = λ e. omega (arith, window.next) };
  last = husk_holds samples d.spare r is.spare;
  shows = record { given = []; window = window; items = husk_offers samples d.spare r is.spare out.received };
  tail = is.tail ∙ sym (ap length out.received);
}

-- ---- the whole

-- what a new process keeps of each track
pub record AreKept (s : Session) (playbacks : List TrackPlayback) (captures : List TrackCapture) : Type 0 where
  pub playbacks_count : length playbacks ≡ length s.tracks.items
  pub each_playback : (t : ℕ) (d : TrackPlayback) → t < length s.tracks.items → IsNewPlayback s.depth (block_of s t) (slice_index_or playbacks t d)
  pub captures_count : length captures ≡ length s.tracks.items
  pub each_capture : (t : ℕ) (k : TrackCapture) → slice_get captures t ≡ Some k → Counts [] t k × HasBox (block_of s t) k

pub knows_at_first : (s : Session) (rings : ProcessEnds) (playbacks : List TrackPlayback) (captures : List TrackCapture) → AreNew s rings → AreKept s playbacks captures → KnowsTheEnds rings.plays.items playbacks
knows_at_first s rings playbacks captures new kept = record {
  count = kept.playbacks_count ∙ sym new.plays;
  closed = λ t r d within. let here : t < length s.tracks.items = omega (arith, within, new.plays) in (kept.each_playback t d here).closed ∙ sym (new.each_play t r here).ended;
}

open_at_first : {T : Type 0} (items samples : ℕ) (a : Sender T) → IsNewIn items samples a → IsOpenIn items samples a
open_at_first items samples a new = record { depth = new.depth; room = new.room; still_open = new.closed }

module _ {I W : Type 0} (inputs : SourceOutside I) (sinks : SinkOutside W) (s : Session) (cycles : ℕ) (input : I) (form : Option WavInfo) (sink : W) (rings : ProcessEnds) (blocks : InputState I) (master : MasterState W)
    (playbacks : List TrackPlayback) (captures : List TrackCapture) where
  abbrev at_first : Playing
  at_first = record { session = s; edits = []; start = inputs.left input; before = sinks.held sink }

  abbrev first_state : Listed Entry → ℕ → ProcessState I W
  first_state journal depth = record { input = blocks; master = master; ends = rings; playbacks = playbacks; captures = captures; journal = journal; depth = depth; entered = 0; generation = 0; next = 0 }

  -- the input and the master of a new process
  pub record AreBegun : Type 0 where
    pub input_is : blocks.input ≡ input
    pub stream : blocks.stream ≡ stream_told form
    pub frames : blocks.block ≡ s.block
    pub read : IsReadTo inputs (from_here inputs input) blocks
    pub sink_is : master.sink ≡ sink
    pub master_of : IsMasterOf s master

  begun_with : IsValid s → AreNew s rings → cycles ≤ 100000 → AreKept s playbacks captures → AreBegun →
      HasBegun inputs sinks s cycles input form sink rings (first_state (record { items = []; room = cycles }) s.depth)
  begun_with valid new few kept begun = record {
    playing = record {
      valid = valid;
      plays = new.plays;
      takes = new.takes;
      playbacks = kept.playbacks_count;
      captures = kept.captures_count;
      depth = refl;
      entered = refl;
      generation = refl;
      next = refl;
      later = λ h above. refl;
      played = λ t r d within. new_is_played s.depth (block_of s t) (slice_index_or rings.plays.items t r) (slice_index_or playbacks t d) (new.each_play t r within) (kept.each_playback t d within);
      recorded = λ t d k within. let ring = new.each_take t d within in
          let one = kept.each_capture t (slice_index_or captures t k) (slice_get-get_or captures t k (omega (arith, within, kept.captures_count))) in record {
            depth = ring.depth;
            fits = record { room = ring.room; box = one.1; still_open = ring.closed };
            counts = one.0;
          };
      to_butler = open_at_first s.depth 0 rings.to_butler new.to_butler;
      to_control = open_at_first s.depth 0 rings.to_control new.to_control;
      master = begun.master_of;
      frames = begun.frames;
      read = begun.read;
      cycles = few;
      within = omega arith;
      promises = promises_first at_first rings new refl;
      hears = record {
        input = rest_sound blocks.stream (inputs.left input);
        told_so = λ tells. refl;
        of_input = λ t d there. ap (map flush.block_of) (let within = slice_get_within rings.takes.items t d there in
            ap (λ x. x.sent) (sym (get_or_from_slice_get rings.takes.items t d d there)) ∙ (new.each_take t d (omega (arith, within, new.takes))).sent);
      };
    };
    input_is = begun.input_is;
    stream = begun.stream;
    master_is = begun.sink_is;
    ends_are = refl;
    journal = refl;
  }

  pub has_begun : (journal : Listed Entry) (depth : ℕ) → journal ≡ record { items = []; room = cycles } → depth ≡ s.depth → IsValid s → AreNew s rings → cycles ≤ 100000 → AreKept s playbacks captures → AreBegun →
      HasBegun inputs sinks s cycles input form sink rings (first_state journal depth)
  has_begun journal depth is deep valid new few kept begun = subst (λ j. HasBegun inputs sinks s cycles input form sink rings (first_state j depth)) (sym is)
      (subst (λ n. HasBegun inputs sinks s cycles input form sink rings (first_state (record { items = []; room = cycles }) n)) (sym deep) (begun_with valid new few kept begun))
