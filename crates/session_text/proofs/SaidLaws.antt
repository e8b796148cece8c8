-- What the text of a valid session says is in range, and keeps what its types ask.
use Rattle.std.proofs.Common.{◌≡◌, ◌≢◌, ℕ, zero, suc, ◌+◌, ◌<◌, ◌≤◌, true, false, refl, ap, sym, ◌∙◌, subst, arith, List, [], ◌∷◌, ◌++◌, length, map, get_or, slice_get, All, Option, Some, None, IsSomeAnd, IfSome, codes, bytes_eq}
use Rattle.std.specs.List.{zip}
use Rattle.std.specs.Option.{option_map_or}
use Rattle.std.proofs.lemmas.List.{length-append, length-map}
use Rattle.std.proofs.lemmas.List.Elements.{All-nil, All-cons, All-append, All-map}
use Rattle.sound_model.specs.Regions as sound
use Rattle.ses_units.specs.Lane.{IsLane}
use Rattle.ses_units.specs.Name.{is_name}
use Rattle.session_model.specs.declared.route.Route.{Route}
use Rattle.session_model.specs.declared.track.Track.{Track}
use Rattle.session_model.specs.declared.session.SourceDecl.{SourceDecl}
use Rattle.session_model.specs.declared.session.Session.{Session}
use Rattle.session_model.specs.Formed.{IsFormedSource, channels_at}
use Rattle.session_model.specs.Region.{IsRegion}
use Rattle.session_model.specs.Playlist.{IsPlaylist}
use Rattle.session_walk.specs.declared.said as text
use Rattle.session_walk.specs.InRange.{IsHead, IsSource, IsRegionText, IsRoute, IsTrack, IsInRange}
use Rattle.session_toml.proofs.LookLaws.{got, got-within, got-front}
use Rattle.session_text.specs.Kept.{IsKeptSource, IsKeptFader, IsKeptRoute}
use Rattle.session_text.specs.Said.{name_at, names_of, out_name, said_region, said_send, said_route, said_master, said_track, said_of, plain_master, track_routes, busses, master, source_names, route_names}
use Rattle.session_text.proofs.ListLaws.{got-behind, all-at, zip-got, zip-second}
use Rattle.session_text.proofs.NameLaws.{others}
use Rattle.session_text.proofs.PartLaws.{IsSend}
use Rattle.session_text.proofs.RouteLaws.{IsHeard, IsOwn}
use Rattle.session_text.proofs.DocumentLaws.{IsText}
use Rattle.session_text.proofs.DeskLaws.{Desk, front, in-front, at-last, names-apart, is-master, out, leads-to, name-of}

-- ---- names

pub kept-routes : (s : Session) → (d : Desk s) → All IsKeptRoute (front s)
kept-routes s d = All-append IsKeptRoute (track_routes s) (busses s) d.kept.track_routes d.kept.busses

route-name : (s : Session) → (d : Desk s) → (i : ℕ) (q : Route) → slice_get s.routes.items i ≡ Some q → is_name (name_at (route_names s) i) ≡ true
route-name s d i q e =
    let last : is_name d.last.name ≡ true = ap is_name (is-master s d).name in
    let P : Route → Type 0 = λ p. is_name p.name ≡ true in
    let all : All P (front s ++ d.last ∷ []) = All-append P (front s) (d.last ∷ []) (λ j c h. (kept-routes s d j c h).name) (All-cons P d.last [] last (All-nil P)) in
    let here : slice_get (front s ++ d.last ∷ []) i ≡ Some q = ap (λ (qs : List Route). slice_get qs i) (sym d.is) ∙ e in
    ap is_name (name-of s.routes.items i q e) ∙ got P (front s ++ d.last ∷ []) i q all here

source-name : (s : Session) → Desk s → (i : ℕ) (e : SourceDecl) → slice_get s.sources.items i ≡ Some e → is_name (name_at (source_names s) i) ≡ true
source-name s d i e f = named s.sources.items i e f ∙ (got IsKeptSource s.sources.items i e d.kept.sources f).name
  where
    named : (ds : List SourceDecl) (i : ℕ) (e : SourceDecl) → slice_get ds i ≡ Some e → is_name (name_at (map (λ x. x.name) ds) i) ≡ is_name e.name
    named [] i e f = cc
    named (x ∷ xs) zero e f = let same : x ≡ e = cc in ap (λ (y : SourceDecl). is_name y.name) same
    named (x ∷ xs) (suc i) e f = named xs i e f

-- ---- routes

not-master : (s : Session) → (d : Desk s) → (i : ℕ) (q : Route) → slice_get (front s) i ≡ Some q → bytes_eq q.name (codes "master") ≡ false
not-master s d i q e =
    let all : List (List ℕ) = names_of (front s ++ d.last ∷ []) in
    let here : slice_get (front s ++ d.last ∷ []) i ≡ Some q = got-front (front s) (d.last ∷ []) i q e in
    let end : slice_get (front s ++ d.last ∷ []) (length (front s)) ≡ Some d.last = ap (λ (qs : List Route). slice_get qs (length (front s))) (sym d.is) ∙ at-last s d in
    let within : length (front s) < length all = omega (arith, length-append (front s) (d.last ∷ []), length-map (front s ++ d.last ∷ []) (λ (q : Route). q.name)) in
    let apart : name_at all i ≢ name_at all (length (front s)) = names-apart s d i (length (front s)) [] (got-within (front s) i q e) within in
    others q.name (codes "master") (λ t. apart (name-of (front s ++ d.last ∷ []) i q here ∙ t ∙ sym (name-of (front s ++ d.last ∷ []) (length (front s)) d.last end ∙ (is-master s d).name)))

pub route-range : (s : Session) → (d : Desk s) → (i : ℕ) (q : Route) → slice_get (front s) i ≡ Some q → IsRoute (said_route (route_names s) q)
unfolding said_route
route-range s d i q e =
    let f = d.formed.routes i q (in-front s d i q e) in
    record {
      other = not-master s d i q e;
      channels_least = f.channels.least;
      channels_most = f.channels.most;
      few = omega (arith, length-map q.sends.items (said_send (route_names s)), f.few);
    }

pub route-heard : (s : Session) → (d : Desk s) → (i : ℕ) (q : Route) → slice_get (front s) i ≡ Some q → IsHeard (said_route (route_names s) q)
unfolding said_route
route-heard s d i q e =
    let kept = got IsKeptRoute (front s) i q (kept-routes s d) e in
    let f = d.formed.routes i q (in-front s d i q e) in
    let o = out s d i q e in
    let next = (leads-to s d q o.to o.may).there in
    record {
      name = kept.name;
      out = ap (λ (t : Option ℕ). is_name (out_name (route_names s) t)) o.is ∙ route-name s d o.to next.0 next.1;
      gain = kept.fader.gain;
      left = kept.left;
      right = kept.right;
      lane = kept.fader.lane;
      sends = All-map IsSend (said_send (route_names s)) q.sends.items (λ j c h.
          let l = get_or q.sends.items j c in
          let to = (leads-to s d q l.to (f.sends j c h)).there in
          record { name = route-name s d l.to to.0 to.1; gain = kept.sends j c h });
      room = refl;
    }

-- ---- tracks

region-range : (names : List (List ℕ)) (r : sound.Region) → IsRegion r → IsRegionText (said_region names r)
unfolding said_region
region-range names r h = record {
  id_least = h.id_least;
  id_most = h.id_most;
  start = h.start;
  some = h.some;
  long = h.long;
  source_end = h.source_end;
  end = h.end;
  layer = h.layer;
  gain = h.gain;
  fades = h.fades;
}

-- a track and its route stand at one place
pub record Pair (s : Session) (i : ℕ) (p : Route × Track) : Type 0 where
  pub route : slice_get (front s) i ≡ Some p.0
  pub track : slice_get s.tracks.items i ≡ Some p.1
  pub channels : channels_at s i ≡ p.0.channels

pub pair : (s : Session) → Desk s → (i : ℕ) (p : Route × Track) → slice_get (zip (track_routes s) s.tracks.items) i ≡ Some p → Pair s i p
pair s d i p e =
    let (q, k) = zip-got (track_routes s) s.tracks.items i p e in
    let here : slice_get (front s) i ≡ Some p.0 = got-front (track_routes s) (busses s) i p.0 q in
    record { route = here; track = k; channels = ap (λ (o : Option Route). option_map_or (λ x. x.channels) o 0) (in-front s d i p.0 here) }

pub track-range : (s : Session) → (d : Desk s) → (i : ℕ) (p : Route × Track) → Pair s i p → IsTrack (said_track (source_names s) (route_names s) p)
unfolding said_track said_route
track-range s d i (q, k) at =
    let f = d.formed.tracks i k at.track in
    let list = got (λ (k : Track). IsPlaylist k.list) s.tracks.items i k d.kept.playlists at.track in
    let P : ℕ → Type 0 = λ n. IfSome k.input (λ first. first + n ≤ 8) in
    record {
      route = route-range s d i q at.route;
      named = refl;
      input = subst P at.channels f.input;
      armed = f.armed;
      few = omega (arith, length-map k.list (said_region (source_names s)), list.few);
      regions = All-map IsRegionText (said_region (source_names s)) k.list (λ j c h. region-range (source_names s) _ (list.limits j c h));
    }

pub track-own : (s : Session) → (d : Desk s) → (i : ℕ) (p : Route × Track) → Pair s i p → IsOwn (said_track (source_names s) (route_names s) p)
unfolding said_track said_region
track-own s d i (q, k) at =
    let f = d.formed.tracks i k at.track in
    record {
      route = route-heard s d i q at.route;
      sources = All-map (λ r. is_name r.source ≡ true) (said_region (source_names s)) k.list (λ j c h. go (get_or k.list j c) (slice_get s.sources.items (get_or k.list j c).source) refl (f.regions j c h));
      room = refl;
    }
  where
    go : (r : sound.Region) (o : Option SourceDecl) → slice_get s.sources.items r.source ≡ o → IsSomeAnd o (λ e. e.channels ≡ channels_at s i) → is_name (name_at (source_names s) r.source) ≡ true
    go r (Some e) is h = source-name s d r.source e is
    go r None is h = absurd h

-- ---- the whole

pub tracks-long : (s : Session) → Desk s → length (map (said_track (source_names s) (route_names s)) (zip (track_routes s) s.tracks.items)) ≡ length s.tracks.items
tracks-long s d = length-map (zip (track_routes s) s.tracks.items) (said_track (source_names s) (route_names s))
    ∙ sym (length-map (zip (track_routes s) s.tracks.items) (λ p. p.1)) ∙ ap length (zip-second (track_routes s) s.tracks.items d.beside)

head-range : (s : Session) → (d : Desk s) → IsHead (said_of s).head
unfolding said_of
head-range s d =
    let h = d.formed.limits in
    let f = d.formed.routes (length (front s)) d.last (at-last s d) in
    let channels : option_map_or (λ q. q.channels) (master s) 0 ≡ d.last.channels = ap (λ (o : Option Route). option_map_or (λ q. q.channels) o 0) d.at in
    record {
      slowest = h.rate.least;
      fastest = h.rate.most;
      channels_least = omega (arith, channels, f.channels.least);
      channels_most = omega (arith, channels, f.channels.most);
      block_least = h.block.least;
      block_most = h.block.most;
      depth_least = h.depth.least;
      depth_most = h.depth.most;
      ring = h.ring;
    }

source-range : (e : SourceDecl) → IsFormedSource e → IsSource e
source-range e h = record { channels_least = h.channels.least; channels_most = h.channels.most }

pub said-range : (s : Session) → Desk s → IsInRange (said_of s)
unfolding said_of
said-range s d =
    let names = route_names s in
    let both : length (front s) ≡ length (track_routes s) + length (busses s) = length-append (track_routes s) (busses s) in
    let buslong = length-map (busses s) (said_route names) in
    record {
      head = head-range s d;
      few_sources = d.formed.limits.sources;
      few_tracks = omega (arith, tracks-long s d, d.formed.limits.tracks);
      few_routes = omega (arith, tracks-long s d, d.beside, both, buslong, d.many, d.formed.limits.routes);
      room = refl;
      sources = λ i c h. source-range _ (d.formed.sources i c h);
      tracks = All-map IsTrack (said_track (source_names s) names) (zip (track_routes s) s.tracks.items) (all-at _ _ (λ i p e. track-range s d i p (pair s d i p e)));
      busses = All-map IsRoute (said_route names) (busses s) (all-at _ _ (λ i q e. route-range s d (length (track_routes s) + i) q (got-behind (track_routes s) (busses s) i _ q refl e)));
    }

pub said-text : (s : Session) → Desk s → IsText (said_of s)
unfolding said_of said_master
said-text s d =
    let names = route_names s in
    let P : Option Route → Type 0 = λ o. IfSome o IsKeptFader in
    let fader : IsKeptFader d.last = subst P d.at d.kept.master in
    let is : option_map_or said_master (master s) plain_master ≡ said_master d.last = ap (λ (o : Option Route). option_map_or said_master o plain_master) d.at in
    let gain : text.MasterText.MasterText → Type 0 = λ m. m.level.gain ≤ 262144 in
    let lane : text.MasterText.MasterText → Type 0 = λ m. IsLane m.automation.lane in
    record {
      version = refl;
      takes = d.kept.takes;
      sources = d.kept.sources;
      tracks = All-map IsOwn (said_track (source_names s) names) (zip (track_routes s) s.tracks.items) (all-at _ _ (λ i p e. track-own s d i p (pair s d i p e)));
      busses = All-map IsHeard (said_route names) (busses s) (all-at _ _ (λ i q e. route-heard s d (length (track_routes s) + i) q (got-behind (track_routes s) (busses s) i _ q refl e)));
      gain = subst gain (sym is) fader.gain;
      lane = subst lane (sym is) fader.lane;
      track_room = refl;
      bus_room = refl;
    }
