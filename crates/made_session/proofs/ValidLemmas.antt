-- A made session is valid.
use Rattle.std.proofs.Common.{◌≡◌, ◌≢◌, ℕ, zero, suc, ◌<◌, ◌≤◌, ◌⊎◌, inl, inr, true, false, ◌||◌, ◌==◌, nat_lt, refl, ap, sym, subst, ◌∙◌, arith, List, [], ◌∷◌, length, map, get_or, Option, Some, slice_get, IsTrue, All}
use Rattle.std.specs.Prelude.{codes, decimal}
use Rattle.std.specs.Option.{option_map_or}
use Rattle.std.proofs.lemmas.Bool.Decides.{nat_tests}
use Rattle.std.proofs.lemmas.Fmt.{decimal_injective}
use Rattle.std.proofs.lemmas.Option.{slice_get_read}
use Rattle.std.proofs.lemmas.List.{get_or_append_left, length-append, length-map, map-append, get_or-map}
use Rattle.std.proofs.lemmas.List.Elements.{All-from_get_or}
use Rattle.std.proofs.lemmas.List.Quantifiers.{all_pairs_push}
use Rattle.sound_model.specs.Routes.{Reaches, by_link, then_on, NoCycle, feeds, links}
use Rattle.session_model.specs.declared.route.RouteKind.TheVariants.{Track as OfTrack, Master}
use Rattle.session_model.specs.declared.route.Route.{Route}
use Rattle.session_model.specs.declared.track.Track.{Track}
use Rattle.session_model.specs.Lists.{AreApart}
use Rattle.session_model.specs.Formed.{HasLimits, HasNames, IsFormedSource, kind_at, MayFeed, IsFormedRoute, channels_at, HasSource, IsFormedTrack, IsFormed}
use Rattle.session_model.specs.Valid.{IsValid}
use Rattle.session_model.specs.Views.{route_of, routes_of}
use Rattle.made_session.specs.Made.{tracks, regions, source, region, track, track_items, track_name, route, track_route, track_routes, master, route_items, made_session}
use Rattle.made_session.proofs.ListLemmas.{each-at, each-get, each-long, each-all, push-at, last-at, some-and}

-- ---- how many there are

pub long-tracks : (n : ℕ) → length (track_items n) ≡ tracks n
long-tracks n = each-long (track n) (tracks n)

pub long-track-routes : (n : ℕ) → length (track_routes n) ≡ tracks n
long-track-routes n = each-long (track_route n) (tracks n)

pub long-routes : (n : ℕ) → length (route_items n) ≡ suc (tracks n)
long-routes n = omega (arith, length-append (track_routes n) (master ∷ []), long-track-routes n)

limits : (n : ℕ) → HasLimits (made_session n)
unfolding made_session
limits n = record {
  rate = record { least = omega arith; most = omega arith };
  block = record { least = omega arith; most = omega arith };
  depth = record { least = omega arith; most = omega arith };
  ring = omega arith;
  sources = omega arith;
  tracks = omega (arith, long-tracks n);
  routes = omega (arith, long-routes n);
  master = omega (arith, long-tracks n, long-routes n);
}

-- ---- names

name-at : (n i : ℕ) (d : List ℕ) → i < tracks n → get_or (map (λ q. q.name) (track_routes n)) i d ≡ track_name i
unfolding route
name-at n i d h = get_or-map (λ (q : Route). q.name) (track_routes n) i master d (omega (arith, long-track-routes n))
    ∙ ap (λ (q : Route). q.name) (each-get (track_route n) (tracks n) i master h)

names-differ : (i j : ℕ) → i < j → j < 32 → track_name i ≢ track_name j
names-differ i j less few same = let digits : decimal i ≡ decimal j = cc in
    let numbers : i ≡ j = decimal_injective i j (omega arith) (omega arith) digits in absurd (omega arith)

no-master : (i : ℕ) → track_name i ≢ codes "master"
no-master i same = differ (get_or (track_name i) 0 0) (get_or (codes "master") 0 0) refl refl (ap (λ name. get_or name 0 0) same)
  where
    differ : (a b : ℕ) → a ≡ 116 → b ≡ 109 → a ≡ b → ⊥
    differ a b t m same = absurd (omega (arith, t, m, same))

names-apart : (n : ℕ) → AreApart (map (λ q. q.name) (track_routes n))
names-apart n i j d less below same =
    let few : j < tracks n = omega (arith, length-map (track_routes n) (λ (q : Route). q.name), long-track-routes n) in
    names-differ i j less (omega arith) (sym (name-at n i d (omega arith)) ∙ same ∙ name-at n j d few)

all-apart : (n : ℕ) → AreApart (map (λ q. q.name) (route_items n))
unfolding route
all-apart n = subst (λ names. AreApart names) (sym (map-append (λ (q : Route). q.name) (track_routes n) (master ∷ [])))
    (all_pairs_push (λ x y. x ≢ y) (map (λ q. q.name) (track_routes n)) (codes "master") (names-apart n)
    (λ k d h same. no-master k (sym (name-at n k d (omega (arith, length-map (track_routes n) (λ (q : Route). q.name), long-track-routes n))) ∙ same)))

one-apart : AreApart (map (λ d. d.name) (source ∷ []))
one-apart i j d less below = absurd (omega arith)

names : (n : ℕ) → HasNames (made_session n)
unfolding made_session
names n = record { sources = one-apart; routes = all-apart n }

-- ---- routes

track-kind : (tracks routes i : ℕ) → i < tracks → OfTrack i ≡ kind_at tracks routes i
track-kind tracks routes i h = let less : nat_lt i tracks ≡ true = grind (arith, nat_tests) in rw less refl

master-kind : (tracks routes i : ℕ) → i ≡ tracks → routes ≡ suc tracks → Master ≡ kind_at tracks routes i
master-kind tracks routes i at long = let less : nat_lt i tracks ≡ false = grind (arith, nat_tests) in
    let last : (suc i == routes) ≡ true = grind (arith, nat_tests) in rw (less, last) refl

none-apart : {X : Type 0} → AreApart {X = X} []
none-apart i j d less below = absurd (omega arith)

no-items : {X : Type 0} (P : X → Type 0) → All P []
no-items P i d h = absurd (omega arith)

to-master : (n : ℕ) (q : Route) → q.channels ≡ 1 → MayFeed (made_session n) q (tracks n)
unfolding made_session route
to-master n q mono = record {
  no_track = omega (arith, long-tracks n);
  wide = some-and (λ (next : Route). q.channels ≤ next.channels) (slice_get (route_items n) (tracks n)) master
      (ap (slice_get (route_items n)) (sym (long-track-routes n)) ∙ last-at (track_routes n) master) (omega (arith, mono));
}

track-formed : (n i : ℕ) → i < tracks n → IsFormedRoute (made_session n) i (track_route n i)
unfolding made_session route
track-formed n i h = record {
  kind = track-kind (length (track_items n)) (length (route_items n)) i (omega (arith, long-tracks n));
  channels = record { least = omega arith; most = omega arith };
  output = to-master n (track_route n i) refl;
  few = omega arith;
  room = omega arith;
  sends = no-items _;
  apart = none-apart;
}

master-formed : (n i : ℕ) → i ≡ tracks n → IsFormedRoute (made_session n) i master
unfolding made_session route
master-formed n i h = record {
  kind = master-kind (length (track_items n)) (length (route_items n)) i (omega (arith, long-tracks n)) (omega (arith, long-tracks n, long-routes n));
  channels = record { least = omega arith; most = omega arith };
  output = record { name = refl; left = refl; right = refl; target = refl; sends = refl };
  few = omega arith;
  room = omega arith;
  sends = no-items _;
  apart = none-apart;
}

route-formed : (n i : ℕ) (q : Route) → ((i < length (track_routes n)) × (slice_get (track_routes n) i ≡ Some q)) ⊎ ((i ≡ length (track_routes n)) × (q ≡ master)) →
    IsFormedRoute (made_session n) i q
route-formed n i q (inl h) = let at = each-at (track_route n) (tracks n) i q h.1 in subst (IsFormedRoute (made_session n) i) (sym at.1) (track-formed n i at.0)
route-formed n i q (inr h) = subst (IsFormedRoute (made_session n) i) (sym h.1) (master-formed n i (omega (arith, h.0, long-track-routes n)))

-- ---- tracks

front : (n i : ℕ) → i < tracks n → slice_get (route_items n) i ≡ Some (track_route n i)
front n i h = slice_get_read (route_items n) (length (route_items n)) i (track_route n i) refl (omega (arith, long-routes n))
    (sym (get_or_append_left (track_routes n) (master ∷ []) (track_route n i) i (omega (arith, long-track-routes n)) ∙ each-get (track_route n) (tracks n) i (track_route n i) h))

channels-of : (n i : ℕ) → i < tracks n → channels_at (made_session n) i ≡ 1
unfolding made_session route
channels-of n i h = ap (λ (o : Option Route). option_map_or (λ q. q.channels) o 0) (front n i h)

of-source : (n channels j : ℕ) → channels ≡ 1 → HasSource (made_session n) channels (region j)
unfolding made_session region
of-source n channels j mono = sym mono

track-stands : (n i : ℕ) → i < tracks n → IsFormedTrack (made_session n) i (track n i)
unfolding track
track-stands n i h = record {
  route = refl;
  input = tt;
  armed = λ e. cc;
  regions = each-all (HasSource (made_session n) (channels_at (made_session n) i)) region (regions n)
      (λ j. of-source n (channels_at (made_session n) i) j (channels-of n i h));
}

-- ---- the whole

one-source : (n : ℕ) → All IsFormedSource (source ∷ [])
one-source n = All-from_get_or IsFormedSource (source ∷ []) source at
  where
    good : IsFormedSource source
    good = record { channels = record { least = omega arith; most = omega arith } }

    at : (i : ℕ) → i < 1 → IsFormedSource (get_or (source ∷ []) i source)
    at zero h = good
    at (suc i) h = absurd (omega arith)

formed : (n : ℕ) → IsFormed (made_session n)
unfolding made_session
formed n = record {
  limits = limits n;
  names = names n;
  sources = one-source n;
  routes = λ i q e. route-formed n i q (push-at (track_routes n) master i q e);
  tracks = λ i k e. let at = each-at (track n) (tracks n) i k e in subst (IsFormedTrack (made_session n) i) (sym at.1) (track-stands n i at.0);
}

-- ---- links

-- a link begins at a route that is there
link-from : (ts : List Track) (qs : List Route) (from to : ℕ) → links (map (route_of ts) qs) from to ≡ true →
    (q : Route) × (slice_get qs from ≡ Some q) × (feeds (route_of ts q) to ≡ true)
link-from ts [] from to e = absurd (nothing e)
  where
    nothing : false ≡ true → ⊥
    nothing h = cc
link-from ts (q ∷ qs) zero to e = (q, refl, e)
link-from ts (q ∷ qs) (suc from) to e = link-from ts qs from to e

leads : (n from to : ℕ) (q : Route) → feeds (route_of (track_items n) q) to ≡ true →
    ((from < length (track_routes n)) × (slice_get (track_routes n) from ≡ Some q)) ⊎ ((from ≡ length (track_routes n)) × (q ≡ master)) →
    (from < tracks n) × (to ≡ tracks n)
unfolding route
leads n from to q fed (inl h) =
    let at = each-at (track_route n) (tracks n) from q h.1 in
    let there : ((tracks n == to) || false) ≡ true = ap (λ r. feeds (route_of (track_items n) r) to) (sym at.1) ∙ fed in
    (at.0, grind (arith, nat_tests))
leads n from to q fed (inr h) = absurd (nothing (ap (λ r. feeds (route_of (track_items n) r) to) (sym h.1) ∙ fed))
  where
    nothing : false ≡ true → ⊥
    nothing e = cc

link : (n from to : ℕ) → IsTrue (links (routes_of (made_session n)) from to) → (from < tracks n) × (to ≡ tracks n)
unfolding made_session
link n from to l = let one = link-from (track_items n) (route_items n) from to l in
    leads n from to one.0 one.2 (push-at (track_routes n) master from one.0 one.1)

begins : (n from to : ℕ) → Reaches (routes_of (made_session n)) from to → from < tracks n
begins n from to (by_link l) = (link n from to l).0
begins n from to (then_on {next = g} l rest) = (link n from g l).0

no_cycle : (n : ℕ) → NoCycle (routes_of (made_session n))
no_cycle n r (by_link l) = let at = link n r r l in absurd (omega (arith, at.0, at.1))
no_cycle n r (then_on {next = g} l rest) = let at = link n r g l in absurd (omega (arith, at.1, begins n g r rest))

pub made_is_valid : (n : ℕ) → IsValid (made_session n)
made_is_valid n = record { formed = formed n; no_cycle = no_cycle n }
