-- What the text of a valid session says is that session again, as it is read.
use Rattle.std.proofs.Common.{◌≡◌, ℕ, ◌<◌, refl, ap, sym, ◌∙◌, arith, List, [], ◌∷◌, ◌++◌, length, map, get_or, slice_get, Option, Some, None, IsSomeAnd}
use Rattle.std.specs.List.{zip}
use Rattle.std.proofs.lemmas.List.{length-map, map-append}
use Rattle.sound_model.specs.Regions as sound
use Rattle.ses_units.specs.Shape.{shape_of}
use Rattle.session_model.specs.declared.route.SendLink.{SendLink}
use Rattle.session_model.specs.declared.route.Route.{Route}
use Rattle.session_model.specs.declared.track.Track.{Track}
use Rattle.session_model.specs.declared.session.SourceDecl.{SourceDecl}
use Rattle.session_model.specs.declared.session.Session.{Session}
use Rattle.session_model.specs.Formed.{HasSource}
use Rattle.session_model.specs.Playlist.{IsPlaylist}
use Rattle.session_model.proofs.PlaylistLemmas.{playlists_are_in_order}
use Rattle.session_walk.specs.declared.said as text
use Rattle.session_toml.specs.Built as built
use Rattle.session_toml.specs.Built.{place_of, numbered, listed, kind_in, send_in, route_in, master_in, region_in, track_in, session_in}
use Rattle.session_toml.specs.Session.{built as built_of}
use Rattle.session_toml.proofs.LookLaws.{got, got-within}
use Rattle.session_text.specs.Said.{names_of, out_name, said_shape, said_region, said_send, said_route, said_master, said_track, said_of, track_routes, source_names, route_names}
use Rattle.session_text.specs.Session.{route_as_read, as_read}
use Rattle.session_text.proofs.ListLaws.{map-map, map-stays, numbered-same, zip-second}
use Rattle.session_text.proofs.NameLaws.{place-back}
use Rattle.session_text.proofs.DeskLaws.{Desk, front, in-front, is-master, master-kind, front-kind, out, texts, owns, leads-to}
use Rattle.session_text.proofs.SaidLaws.{Pair, pair}
use Rattle.session_text.proofs.RuleLaws.{routes-are}

-- ---- routes

sends-back : (s : Session) → (d : Desk s) → (i : ℕ) (q : Route) → slice_get (front s) i ≡ Some q →
    map (send_in (names_of (front s))) (map (said_send (route_names s)) q.sends.items) ≡ q.sends.items
sends-back s d i q e =
    let f = d.formed.routes i q (in-front s d i q e) in
    map-map (said_send (route_names s)) (send_in (names_of (front s))) q.sends.items
    ∙ map-stays (λ l. send_in (names_of (front s)) (said_send (route_names s) l)) q.sends.items (λ j c h.
    let l : SendLink = get_or q.sends.items j c in
    ap (λ (to : ℕ). let link : SendLink = record { to = to; pre = l.pre; gain = l.gain } in link) (leads-to s d q l.to (f.sends j c h)).back)

route-back : (s : Session) → (d : Desk s) → (i : ℕ) (q : Route) → slice_get (front s) i ≡ Some q →
    route_in (names_of (front s)) (kind_in (length s.tracks.items) i) (said_route (route_names s) q) ≡ route_as_read q
unfolding route_in said_route
route-back s d i q e =
    let o = out s d i q e in
    let back : Some (place_of (names_of (front s)) (out_name (route_names s) q.target)) ≡ q.target =
    ap (λ (t : Option ℕ). Some (place_of (names_of (front s)) (out_name (route_names s) t))) o.is ∙ ap Some (leads-to s d q o.to o.may).back ∙ sym o.is in
    rw (sym (front-kind s d i q e), back, sends-back s d i q e) refl

master-back : (s : Session) → (d : Desk s) → master_in d.last.channels (said_master d.last) ≡ route_as_read d.last
unfolding master_in said_master
master-back s d = let is = is-master s d in rw (is.left, is.right, is.target, is.sends, is.name, master-kind s d) refl

names-back : (names : List (List ℕ)) (qs : List Route) → built.route_names (map (said_route names) qs) ≡ names_of qs
unfolding said_route
names-back names [] = refl
names-back names (q ∷ qs) = ap (λ ns. q.name ∷ ns) (names-back names qs)

routes-back : (s : Session) → (d : Desk s) → built.routes_in (length s.tracks.items) (texts s) ++ master_in d.last.channels (said_master d.last) ∷ [] ≡ map route_as_read s.routes.items
routes-back s d =
    let make : List (List ℕ) → ℕ → text.RouteText.RouteText → Route = λ names place. route_in names (kind_in (length s.tracks.items) place) in
    let names : built.route_names (texts s) ≡ names_of (front s) = names-back (route_names s) (front s) in
    let each : numbered (make (names_of (front s))) 0 (texts s) ≡ map route_as_read (front s) =
    numbered-same (make (names_of (front s))) (said_route (route_names s)) route_as_read 0 (front s) (λ i m q is e.
    let same : m ≡ i = omega arith in ap (λ (n : ℕ). make (names_of (front s)) n (said_route (route_names s) q)) same ∙ route-back s d i q e) in
    ap (λ (ns : List (List ℕ)). numbered (make ns) 0 (texts s) ++ master_in d.last.channels (said_master d.last) ∷ []) names
    ∙ ap (λ (qs : List Route). qs ++ master_in d.last.channels (said_master d.last) ∷ []) each
    ∙ ap (λ (q : Route). map route_as_read (front s) ++ q ∷ []) (master-back s d)
    ∙ sym (ap (map route_as_read) d.is ∙ map-append route_as_read (front s) (d.last ∷ []))

-- ---- tracks

shape-back : (x : sound.Shape) → shape_of (said_shape x) ≡ x
shape-back sound.Linear = refl
shape-back sound.Slow = refl

region-back : (s : Session) → (d : Desk s) → (channels : ℕ) (r : sound.Region) → HasSource s channels r → region_in (source_names s) (said_region (source_names s) r) ≡ r
unfolding region_in said_region
region-back s d channels r h = go (slice_get s.sources.items r.source) refl h
  where
    go : (o : Option SourceDecl) → slice_get s.sources.items r.source ≡ o → IsSomeAnd o (λ e. e.channels ≡ channels) → region_in (source_names s) (said_region (source_names s) r) ≡ r
    go (Some e) is f =
        let within : r.source < length (source_names s) = omega (arith, got-within s.sources.items r.source e is, length-map s.sources.items (λ (e : SourceDecl). e.name)) in
        rw (place-back (source_names s) r.source d.formed.names.sources within, shape-back r.shape_in, shape-back r.shape_out) refl
    go None is f = absurd f

track-back : (s : Session) → (d : Desk s) → (i : ℕ) (p : Route × Track) → Pair s i p → track_in (source_names s) i (said_track (source_names s) (route_names s) p).own ≡ p.1
unfolding track_in said_track
track-back s d i (q, k) at =
    let f = d.formed.tracks i k at.track in
    let list = got (λ (k : Track). IsPlaylist k.list) s.tracks.items i k d.kept.playlists at.track in
    let regions : map (region_in (source_names s)) (map (said_region (source_names s)) k.list) ≡ k.list =
    map-map (said_region (source_names s)) (region_in (source_names s)) k.list
    ∙ map-stays (λ r. region_in (source_names s) (said_region (source_names s) r)) k.list (λ j c h. region-back s d _ (get_or k.list j c) (f.regions j c h)) in
    rw (regions, playlists_are_in_order k.list list, sym f.route) refl

tracks-back : (s : Session) → (d : Desk s) → numbered (track_in (source_names s)) 0 (owns s) ≡ s.tracks.items
tracks-back s d =
    let pairs = zip (track_routes s) s.tracks.items in
    let said = said_track (source_names s) (route_names s) in
    ap (numbered (track_in (source_names s)) 0) (map-map said (λ (k : text.TrackText.TrackText). k.own) pairs)
    ∙ numbered-same (track_in (source_names s)) (λ (p : Route × Track). (said p).own) (λ (p : Route × Track). p.1) 0 pairs (λ i m p is e.
    let same : m ≡ i = omega arith in ap (λ (n : ℕ). track_in (source_names s) n (said p).own) same ∙ track-back s d i p (pair s d i p e))
    ∙ zip-second (track_routes s) s.tracks.items d.beside

owns-long : (s : Session) → Desk s → length (owns s) ≡ length s.tracks.items
owns-long s d =
    let pairs = zip (track_routes s) s.tracks.items in
    let said = said_track (source_names s) (route_names s) in
    length-map (map said pairs) (λ (k : text.TrackText.TrackText). k.own) ∙ length-map pairs said ∙ sym (length-map pairs (λ (p : Route × Track). p.1)) ∙ ap length (zip-second (track_routes s) s.tracks.items d.beside)

-- ---- the session

pub built-back : (s : Session) → Desk s → built_of (said_of s) ≡ as_read s
unfolding said_of session_in as_read
built-back s d = rw (routes-are s d, owns-long s d, d.at, routes-back s d, tracks-back s d) refl
