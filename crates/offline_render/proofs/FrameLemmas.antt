-- One frame of a track, and those of all tracks side by side.
use Rattle.std.proofs.Common.{◌≡◌, ℕ, ◌+◌, ◌-◌, ◌*◌, ◌<◌, ◌≤◌, ◌⊎◌, inl, inr, List, [], ◌∷◌, ◌++◌, length, map, take, drop, get_or, Some, refl, ap, sym, subst, ⊎_elim, ◌∙◌, arith}
use Rattle.std.specs.Prelude.{ℤ, pos, slice_get, slice_index, All, IsSomeAnd}
use Rattle.std.specs.Option.{option_map_or}
use Rattle.std.proofs.lemmas.Bool.{cases_lt}
use Rattle.std.proofs.lemmas.List.{length-map, length-take-le, get_or-map, get_or-take, get_or_append_left, get_or-append-add}
use Rattle.std.proofs.lemmas.List.Elements.{All-weaker}
use Rattle.std.proofs.lemmas.List.FromFn.{fill_by_all, get_or-map-range_with_len, length-map-range_with_len}
use Rattle.std.proofs.lemmas.Option.{slice_get_cases, slice_get_read}
use borrow.Rule.Slice.PartMut.{put_mid}
use Rattle.sound_model.specs.Regions.{Region, Sounds}
use Rattle.sound_model.specs.Layers.{track_sample}
use Rattle.sound_model.specs.Routes.{master_sample}
use Rattle.sound_laws.specs.Desks.{LeadsWide, AgreeOnOwn, OnlyOwnChannels}
use Rattle.session_model.specs.declared.track.Track.{Track}
use Rattle.session_model.specs.declared.session.SourceDecl.{SourceDecl}
use Rattle.session_model.specs.declared.session.Session.{Session}
use Rattle.session_model.specs.Formed as formed
use Rattle.session_model.specs.Formed.{IsFormed, kind_at, channels_at}
use Rattle.session_model.specs.Frames.{interleaved}
use Rattle.session_model.specs.Views.{routes_of, track_number, track_regions}
use Rattle.playlist_layers.specs.Reads.{HasSource}
use Rattle.route_graph.proofs.GraphLaws.{as_many}
use Rattle.engine_model.specs.Played.{master_channels}
use Rattle.engine_laws.proofs.WideLemmas.{route_seen, channels_seen, track_place}
use Rattle.offline_render.proofs.WalkLemmas.{seen}
use Rattle.offline_render.specs.Frame.{frame, track_frame, master_frame, samples, heard_samples, AreHeard, named_channels}

-- a block of one frame is that frame
pub one_frame : (sound : ℕ → ℕ → ℤ) (channels place : ℕ) → (channels ≡ 1) ⊎ (channels ≡ 2) → interleaved sound channels place channels ≡ frame (sound place) channels
one_frame sound channels place (inl one) = subst (λ n. interleaved sound n place n ≡ frame (sound place) n) (sym one) (ap (λ x. sound x 0 ∷ []) (omega arith))
one_frame sound channels place (inr two) = subst (λ n. interleaved sound n place n ≡ frame (sound place) n) (sym two) (ap (λ x. sound x 0 ∷ sound x 1 ∷ []) (omega arith))

-- ---- sources

source_told : (decls : List SourceDecl) (i channels : ℕ) → IsSomeAnd (slice_get decls i) (λ d. d.channels ≡ channels) →
    (i < length decls) × (slice_index (map (λ d. d.channels) decls) i ≡ channels)
source_told decls i channels h = ⊎_elim
    (λ w. let some = subst (λ o. IsSomeAnd o (λ d. d.channels ≡ channels)) w.2 h in (w.1, get_or-map (λ d. d.channels) decls i w.0 0 w.1 ∙ ap (λ d. d.channels) w.3 ∙ some))
    (λ w. absurd (subst (λ o. IsSomeAnd o (λ d. d.channels ≡ channels)) w.1 h)) (slice_get_cases decls i).1

-- the regions of a session's track show sources of a reader whose sources have the channels that the session names
pub sources_there : (s : Session) (told : List ℕ) (channels : ℕ) (regions : List Region) → told ≡ named_channels s → All (formed.HasSource s channels) regions → All (HasSource told channels) regions
sources_there s told channels regions same all = All-weaker (formed.HasSource s channels) (HasSource told channels) one regions all
  where
    one : (r : Region) → formed.HasSource s channels r → HasSource told channels r
    one r h = let is = source_told s.sources.items r.source channels h in
        record { there = omega (arith, is.0, ap length same, length-map s.sources.items (λ d. d.channels)); same = ap (λ cs. slice_index cs r.source) same ∙ is.1 }

-- ---- tracks side by side

module _ (sounds : Sounds) (s : Session) (place : ℕ) (few : (r : ℕ) → channels_at s r ≤ 2) where
  pub none_heard : (tracks : List ℤ) → AreHeard sounds s place 0 tracks
  none_heard tracks t c h k = absurd (omega (arith, h))

  pub one_heard : (n channels : ℕ) (track : Track) (tracks part : List ℤ) → slice_get s.tracks.items n ≡ Some track → channels_at s n ≡ channels → 2 * n + channels ≤ length tracks →
      part ≡ track_frame sounds track.list channels place → AreHeard sounds s place n tracks →
      AreHeard sounds s place (n + 1) (put_mid (2 * n) (2 * n + channels - 2 * n) tracks part)
  one_heard n channels track tracks part there wide room is sofar t c h k = ⊎_elim before here (cases_lt t n)
    where
      front : length (take (2 * n) tracks) ≡ 2 * n
      front = length-take-le (2 * n) tracks (omega (arith, room))

      rest : List ℤ
      rest = drop (2 * n + channels - 2 * n) (drop (2 * n) tracks)

      before : t < n → get_or (take (2 * n) tracks ++ (part ++ rest)) (2 * t + c) (pos 0) ≡ heard_samples sounds s place t c
      before low = let side = few t in let within : 2 * t + c < 2 * n = omega (arith, side, k, low) in
          get_or_append_left (take (2 * n) tracks) (part ++ rest) (pos 0) (2 * t + c) (omega (arith, front, within))
          ∙ get_or-take (2 * n) tracks (2 * t + c) (pos 0) within ∙ sofar t c low k

      own : t ≡ n → track.list ≡ track_regions s t
      own same = sym (ap (λ i. option_map_or (λ x. x.list) (slice_get s.tracks.items i) []) same ∙ ap (λ o. option_map_or (λ x. x.list) o []) there)

      here : n ≤ t → get_or (take (2 * n) tracks ++ (part ++ rest)) (2 * t + c) (pos 0) ≡ heard_samples sounds s place t c
      here high = let same : t ≡ n = omega (arith, h) in
          let low : c < channels = omega (arith, k, ap (channels_at s) same, wide) in
          ap (λ i. get_or (take (2 * n) tracks ++ (part ++ rest)) i (pos 0)) (omega (arith, front))
          ∙ get_or-append-add (take (2 * n) tracks) (part ++ rest) c (pos 0)
          ∙ get_or_append_left part rest (pos 0) c (omega (arith, low, ap length is, length-map-range_with_len (λ i. track_sample sounds track.list i place) 0 channels))
          ∙ ap (λ xs. get_or xs c (pos 0)) is
          ∙ get_or-map-range_with_len (λ i. track_sample sounds track.list i place) 0 channels c c (pos 0) low (omega arith)
          ∙ ap (λ rs. track_sample sounds rs c place) (own same)

pub channels_few : (s : Session) → IsFormed s → (r : ℕ) → channels_at s r ≤ 2
channels_few s formed r = ⊎_elim
    (λ w. let wide = ap (λ o. option_map_or (λ q. q.channels) o 0) w.2 in let most = (formed.routes r w.0 w.2).channels.most in omega (arith, wide, most))
    (λ w. let wide = ap (λ o. option_map_or (λ q. q.channels) o 0) w.1 in omega (arith, wide))
    (slice_get_cases s.routes.items r).1

-- the number of channels of a route
pub one_or_two : (n : ℕ) → 1 ≤ n → n ≤ 2 → (n ≡ 1) ⊎ (n ≡ 2)
one_or_two n least most = ⊎_elim (λ low. inl (omega arith)) (λ high. inr (omega arith)) (cases_lt n 2)

-- the track that was read
pub track_read : (s : Session) (items : List Track) (t : ℕ) (track : Track) → items ≡ s.tracks.items → t < length items → track ≡ get_or items t track → slice_get s.tracks.items t ≡ Some track
track_read s items t track same h it = ap (λ xs. slice_get xs t) (sym same) ∙ slice_get_read items (length items) t track refl h it

-- ---- the master

pub same_frame : (value other : ℕ → ℤ) (channels : ℕ) → ((c : ℕ) → c < channels → value c ≡ other c) → frame value channels ≡ frame other channels
same_frame value other channels same =
    fill_by_all other (frame value channels) channels (pos 0) (length-map-range_with_len value 0 channels)
    (λ k h. get_or-map-range_with_len value 0 channels k k (pos 0) h (omega arith) ∙ same k h)

-- tracks that are heard agree with what is heard, on their own channels
agree : (sounds : Sounds) (s : Session) (place : ℕ) (tracks : List ℤ) → IsFormed s → AreHeard sounds s place (length s.tracks.items) tracks →
    AgreeOnOwn (routes_of s) (samples tracks) (heard_samples sounds s place)
agree sounds s place tracks formed heard f t c q there own within =
    let is = route_seen s f q there in
    let number : track_number (kind_at (length s.tracks.items) (length s.routes.items) f) ≡ Some t =
    ap track_number (sym (formed.routes f is.route is.there).kind) ∙ ap (λ x. x.track) is.seen ∙ own in
    let at = track_place (length s.tracks.items) (length s.routes.items) f t number in
    heard t c (omega (arith, at.0, at.1)) (omega (arith, within, channels_seen s f q there, ap (channels_at s) at.1))

pub master_heard : (sounds : Sounds) (s : Session) (place : ℕ) (tracks : List ℤ) → OnlyOwnChannels → LeadsWide (routes_of s) → IsFormed s →
    AreHeard sounds s place (length s.tracks.items) tracks → master_frame s (samples tracks) place ≡ master_frame s (heard_samples sounds s place) place
master_heard sounds s place tracks only leads formed heard =
    same_frame (λ c. master_sample (routes_of s) (samples tracks) place c) (λ c. master_sample (routes_of s) (heard_samples sounds s place) place c) (master_channels s) each
  where
    each : (c : ℕ) → c < master_channels s → master_sample (routes_of s) (samples tracks) place c ≡ master_sample (routes_of s) (heard_samples sounds s place) place c
    each c h = let many = as_many s in let last = seen s (length (routes_of s) - 1) (omega (arith, many, formed.limits.master)) in
        only (routes_of s) (samples tracks) (heard_samples sounds s place) place (length (routes_of s) - 1) c last.route leads (agree sounds s place tracks formed heard) last.there
        (omega (arith, h, last.wide, ap (λ n. channels_at s (n - 1)) many))
