-- The routes of a formed session: those of tracks, the busses, and the master; and where each of them leads.
use Rattle.std.proofs.Common.{◌≡◌, ◌≢◌, ℕ, zero, suc, ◌-◌, ◌<◌, ◌≤◌, true, false, ◌==◌, nat_lt, refl, ap, sym, ◌∙◌, subst, arith, List, [], ◌∷◌, ◌++◌, length, map, slice_get, Option, Some, None, IsSomeAnd, bytes_eq}
use Rattle.std.specs.List.{zip}
use Rattle.std.proofs.lemmas.Bool.Decides.{nat_tests}
use Rattle.std.proofs.lemmas.List.{length-append, length-take-le, length-map, map-append}
use Rattle.sound_laws.proofs.Cases.{by_test}
use Rattle.session_model.specs.declared.route.RouteKind.{RouteKind}
use Rattle.session_model.specs.declared.route.RouteKind.TheVariants.{Track as OfTrack, Bus, Master}
use Rattle.session_model.specs.declared.route.Route.{Route}
use Rattle.session_model.specs.declared.session.Session.{Session}
use Rattle.session_model.specs.Formed.{MayFeed, IsMaster, LeadsOn, IsFormed}
use Rattle.session_model.specs.Lists.{AreApart}
use Rattle.session_walk.specs.declared.said as text
use Rattle.session_toml.specs.Rules.{has_route, is_track, route_channels}
use Rattle.session_toml.specs.Built.{place_of, kind_in}
use Rattle.session_toml.proofs.LookLaws.{got-within, got-front, got-last}
use Rattle.session_text.specs.Kept.{IsKept}
use Rattle.session_text.specs.Said.{name_at, names_of, said_route, said_track, track_routes, busses, master, source_names, route_names}
use Rattle.session_text.proofs.ListLaws.{there, all-at, parts}
use Rattle.session_text.proofs.NameLaws.{others, place-back-last, led, no-track}

-- every route but the master
abbrev pub front : Session → List Route
front s = track_routes s ++ busses s

-- what a session's text is made of
pub record Desk (s : Session) : Type 0 where
  pub formed : IsFormed s
  pub kept : IsKept s
  pub last : Route
  pub at : master s ≡ Some last
  pub is : s.routes.items ≡ front s ++ last ∷ []
  pub beside : length (track_routes s) ≡ length s.tracks.items
  pub many : length s.routes.items ≡ suc (length (front s))

pub desk : (s : Session) → IsFormed s → IsKept s → Desk s
desk s formed kept =
    let h : length s.tracks.items < length s.routes.items = formed.limits.master in
    let (q, at) = there s.routes.items (length s.routes.items - 1) (omega (arith, h)) in
    let is : s.routes.items ≡ front s ++ q ∷ [] = parts s.routes.items (length s.tracks.items) q h at in
    record {
      formed = formed;
      kept = kept;
      last = q;
      at = at;
      is = is;
      beside = length-take-le (length s.tracks.items) s.routes.items (omega (arith, h));
      many = ap length is ∙ omega (arith, length-append (front s) (q ∷ []));
    }

-- ---- places

pub in-front : (s : Session) → Desk s → (i : ℕ) (q : Route) → slice_get (front s) i ≡ Some q → slice_get s.routes.items i ≡ Some q
in-front s d i q e = ap (λ (qs : List Route). slice_get qs i) d.is ∙ got-front (front s) (d.last ∷ []) i q e

pub at-last : (s : Session) → (d : Desk s) → slice_get s.routes.items (length (front s)) ≡ Some d.last
at-last s d = ap (λ (qs : List Route). slice_get qs (length (front s))) d.is ∙ got-last (front s) d.last

pub names-are : (s : Session) → (d : Desk s) → route_names s ≡ names_of (front s ++ d.last ∷ [])
names-are s d = ap names_of d.is

pub names-apart : (s : Session) → (d : Desk s) → AreApart (names_of (front s ++ d.last ∷ []))
names-apart s d = let P : List (List ℕ) → Type 0 = AreApart in subst P (names-are s d) d.formed.names.routes

-- ---- the master

last-is-master : (s : Session) (q : Route) (k : RouteKind) → k ≡ Master → LeadsOn s q k → IsMaster q
last-is-master s q k e h = let P : RouteKind → Type 0 = LeadsOn s q in subst P e h

pub master-kind : (s : Session) → (d : Desk s) → d.last.kind ≡ Master
master-kind s d =
    let f = d.formed.routes (length (front s)) d.last (at-last s d) in
    let n : ℕ = length s.tracks.items in
    let m : ℕ = length s.routes.items in
    let past : nat_lt (length (front s)) n ≡ false = (let l : n < m = d.formed.limits.master in let e : m ≡ suc (length (front s)) = d.many in grind (arith, nat_tests)) in
    let end : (suc (length (front s)) == m) ≡ true = (let e : m ≡ suc (length (front s)) = d.many in grind (arith, nat_tests)) in
    f.kind ∙ rw (past, end) refl

pub is-master : (s : Session) → (d : Desk s) → IsMaster d.last
is-master s d = last-is-master s d.last d.last.kind (master-kind s d) (d.formed.routes (length (front s)) d.last (at-last s d)).output

-- ---- the others

pub front-kind : (s : Session) → Desk s → (i : ℕ) (q : Route) → slice_get (front s) i ≡ Some q → q.kind ≡ kind_in (length s.tracks.items) i
front-kind s d i q e =
    let m : ℕ = length s.routes.items in
    let below : i < length (front s) = got-within (front s) i q e in
    let before : (suc i == m) ≡ false = (let h : m ≡ suc (length (front s)) = d.many in grind (arith, nat_tests)) in
    (d.formed.routes i q (in-front s d i q e)).kind ∙ by_test (nat_lt i (length s.tracks.items)) (λ t. rw t refl) (λ t. rw (t, before) refl)

leads : (s : Session) (q : Route) (tracks place : ℕ) (k : RouteKind) → k ≡ kind_in tracks place → LeadsOn s q k → IsSomeAnd q.target (MayFeed s q)
leads s q tracks place k e h = by_test (nat_lt place tracks)
    (λ t. let P : RouteKind → Type 0 = LeadsOn s q in let is : k ≡ OfTrack place = e ∙ rw t refl in subst P is h)
    (λ t. let P : RouteKind → Type 0 = LeadsOn s q in let is : k ≡ Bus = e ∙ rw t refl in subst P is h)

-- the output of a route leads to a place
pub record Out (s : Session) (q : Route) : Type 0 where
  pub to : ℕ
  pub is : q.target ≡ Some to
  pub may : MayFeed s q to

pub out : (s : Session) → Desk s → (i : ℕ) (q : Route) → slice_get (front s) i ≡ Some q → Out s q
out s d i q e = go q.target refl (leads s q (length s.tracks.items) i q.kind (front-kind s d i q e) (d.formed.routes i q (in-front s d i q e)).output)
  where
    go : (o : Option ℕ) → q.target ≡ o → IsSomeAnd o (MayFeed s q) → Out s q
    go (Some to) is may = record { to = to; is = is; may = may }
    go None is may = absurd may

-- ---- what the name of a place that a route leads to says

-- the routes of the text
abbrev pub texts : Session → List text.RouteText.RouteText
texts s = map (said_route (route_names s)) (front s)

abbrev pub owns : Session → List text.TrackOwn.TrackOwn
owns s = map (λ k. k.own) (map (said_track (source_names s) (route_names s)) (zip (track_routes s) s.tracks.items))

pub record Leads (s : Session) (last : Route) (channels to : ℕ) : Type 0 where
  pub has : has_route (texts s) (name_at (route_names s) to) ≡ true
  pub no_track : is_track (owns s) (name_at (route_names s) to) ≡ false
  pub wide : channels ≤ route_channels (texts s) last.channels (name_at (route_names s) to)
  pub back : place_of (names_of (front s)) (name_at (route_names s) to) ≡ to
  pub there : (next : Route) × (slice_get s.routes.items to ≡ Some next)

pub name-of : (qs : List Route) (i : ℕ) (q : Route) → slice_get qs i ≡ Some q → name_at (names_of qs) i ≡ q.name
name-of [] i q e = cc
name-of (p ∷ qs) zero q e = cc
name-of (p ∷ qs) (suc i) q e = name-of qs i q e

pub leads-to : (s : Session) → (d : Desk s) → (q : Route) (to : ℕ) → MayFeed s q to → Leads s d.last q.channels to
leads-to s d q to may = go (slice_get s.routes.items to) refl may.wide
  where
    all : List (List ℕ)
    all = names_of (front s ++ d.last ∷ [])

    go : (o : Option Route) → slice_get s.routes.items to ≡ o → IsSomeAnd o (λ next. q.channels ≤ next.channels) → Leads s d.last q.channels to
    go None e wide = absurd wide
    go (Some next) e wide =
        let here : slice_get (front s ++ d.last ∷ []) to ≡ Some next = ap (λ (qs : List Route). slice_get qs to) (sym d.is) ∙ e in
        let names : route_names s ≡ all = names-are s d in
        let found = led (route_names s) (front s) d.last next to (is-master s d).name (names-apart s d) here in
        let same : name_at (route_names s) to ≡ name_at all to = ap (λ (ns : List (List ℕ)). name_at ns to) names in
        let within : to < length all = omega (arith, got-within (front s ++ d.last ∷ []) to next here, length-map (front s ++ d.last ∷ []) (λ (q : Route). q.name)) in
        let split : all ≡ names_of (front s) ++ d.last.name ∷ [] = map-append (λ (q : Route). q.name) (front s) (d.last ∷ []) in
        let last-apart : AreApart (names_of (front s) ++ d.last.name ∷ []) = (let P : List (List ℕ) → Type 0 = AreApart in subst P split (names-apart s d)) in
        let routes = texts s in
        record {
          has = ap (has_route routes) same ∙ found.has;
          no_track = no-track (source_names s) (route_names s) (track_routes s) s.tracks.items (name_at (route_names s) to)
              (all-at (λ (p : Route). bytes_eq p.name (name_at (route_names s) to) ≡ false) (track_routes s) (λ j p f.
              let before : slice_get (front s ++ d.last ∷ []) j ≡ Some p = got-front (front s) (d.last ∷ []) j p (got-front (track_routes s) (busses s) j p f) in
              let low : j < to = omega (arith, got-within (track_routes s) j p f, d.beside, may.no_track) in
              let apart : name_at all j ≢ name_at all to = names-apart s d j to [] low within in
              let named : name_at all j ≡ p.name = name-of (front s ++ d.last ∷ []) j p before in
              others p.name (name_at (route_names s) to) (λ t. apart (named ∙ t ∙ same))));
          wide = let P : ℕ → Type 0 = λ n. q.channels ≤ n in subst P (sym (ap (route_channels routes d.last.channels) same ∙ found.channels)) wide;
          back = ap (place_of (names_of (front s))) (same ∙ ap (λ (ns : List (List ℕ)). name_at ns to) split)
              ∙ place-back-last (names_of (front s)) d.last.name to last-apart (omega (arith, within, ap length split));
          there = (next, e);
        }
