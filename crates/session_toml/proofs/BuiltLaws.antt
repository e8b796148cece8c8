-- What a session is built of: lists, kinds of routes, sends, names, regions, and the whole.
use Rattle.std.proofs.Common.{◌≡◌, ◌≢◌, ℕ, suc, ◌<◌, ◌≤◌, true, false, ◌==◌, nat_lt, refl, ap, sym, ◌∙◌, subst, arith, List, [], ◌∷◌, ◌++◌, length, map, All, Option, Some, None, is_some, IsSomeAnd, bytes_eq, codes}
use Rattle.std.specs.Prelude.{AllPairs}
use Rattle.std.proofs.lemmas.Bool.Decides.{nat_tests}
use Rattle.std.proofs.lemmas.Slice.Eq.{bytes_eq-Decides}
use Rattle.std.proofs.lemmas.List.{map-append, length-append, length-map}
use Rattle.std.proofs.lemmas.List.Elements.{All-nil, All-cons, All-head, All-tail}
use Rattle.std.proofs.lemmas.List.Kept.{AllPairs-cons}
use Rattle.sound_laws.proofs.Cases.{by_test}
use Rattle.sound_model.specs.Regions.{Region}
use Rattle.sound_model.specs.Layers.{is_below, with_region}
use Rattle.session_model.specs.declared.route.RouteKind.{RouteKind}
use Rattle.session_model.specs.declared.route.RouteKind.TheVariants.{Track as OfTrack, Bus, Master}
use Rattle.session_model.specs.declared.route.Route.{Route}
use Rattle.session_model.specs.declared.session.SourceDecl.{SourceDecl}
use Rattle.session_model.specs.declared.session.Session.{Session}
use Rattle.session_model.specs.Formed.{HasLimits, HasNames, IsFormedSource, kind_at, MayFeed, LeadsOn}
use Rattle.session_model.specs.Lists.{AreApart}
use Rattle.session_walk.specs.declared.said as text
use Rattle.session_walk.specs.InRange.{IsSource, IsRoute, IsInRange}
use Rattle.session_toml.specs.Rules.{has_route, same_send, same_route, same_source}
use Rattle.session_toml.specs.Built.{place_of, numbered, route_names, source_names, send_in, kind_in, route_in, master_in, routes_in, region_in, playlist_in, track_in, session_in}
use Rattle.session_toml.specs.Session.{routes_of, tracks_of, built}
use Rattle.session_toml.proofs.NumberedLaws.{numbered-long}
use Rattle.session_toml.proofs.RuleLaws.{Keeps}
use Rattle.session_toml.proofs.FeedLaws.{Texts, Routes, Owns, Laid, all-routes, places-apart}

-- ---- lists of the session

pub laid-long : (ts : Texts) (bs : List text.RouteText.RouteText) (ch : ℕ) (m : text.MasterText.MasterText) → length (Laid ts bs ch m) ≡ suc (length (Routes ts bs))
laid-long ts bs ch m = omega (
  arith,
  length-append (routes_in (length (Owns ts)) (Routes ts bs)) (master_in ch m ∷ []),
  numbered-long (λ p. route_in (route_names (Routes ts bs)) (kind_in (length (Owns ts)) p)) 0 (Routes ts bs),
)

pub tracks-within : (ts : Texts) (bs : List text.RouteText.RouteText) → length (Owns ts) ≤ length (Routes ts bs)
tracks-within ts bs = omega (arith, length-map ts (λ k. k.own), length-map ts (λ k. k.route), length-append (map (λ k. k.route) ts) bs)

-- ---- the kind of a route

pub kind-is : (tracks place : ℕ) (many : ℕ) → place < many → kind_in tracks place ≡ kind_at tracks (suc many) place
kind-is tracks place many h = by_test (nat_lt place tracks)
    (λ e. rw e refl)
    (λ e. let inner : (suc place == suc many) ≡ false = grind (arith, nat_tests) in rw (e, inner) refl)

pub master-kind : (tracks many : ℕ) → tracks ≤ many → Master ≡ kind_at tracks (suc many) many
master-kind tracks many h = let past : nat_lt many tracks ≡ false = grind (arith, nat_tests) in let last : (suc many == suc many) ≡ true = grind (arith, nat_tests) in rw (past, last) refl

pub leads-on : (s : Session) (q : Route) (tracks place : ℕ) → IsSomeAnd q.target (MayFeed s q) → LeadsOn s q (kind_in tracks place)
leads-on s q tracks place h = by_test (nat_lt place tracks)
    (λ e. subst (LeadsOn s q) (sym (kind-track e)) h)
    (λ e. subst (LeadsOn s q) (sym (kind-bus e)) h)
  where
    kind-track : nat_lt place tracks ≡ true → kind_in tracks place ≡ OfTrack place
    kind-track e = rw e refl

    kind-bus : nat_lt place tracks ≡ false → kind_in tracks place ≡ Bus
    kind-bus e = rw e refl

-- ---- sends lead to different routes

pub none-twice : {A : Type 0} (o : Option A) → is_some o ≡ false → o ≡ None
none-twice None e = refl
none-twice (Some x) e = cc

send-others : (routes : List text.RouteText.RouteText) (l : text.SendText.SendText) (ls : List text.SendText.SendText) → has_route routes l.to ≡ true → All (λ m. has_route routes m.to ≡ true) ls →
    All (λ m. same_send l m ≡ false) ls → All (λ y. place_of (route_names routes) l.to ≢ y) (map (λ k. k.to) (map (send_in (route_names routes)) ls))
send-others routes l [] hl hs others = All-nil (λ y. place_of (route_names routes) l.to ≢ y)
send-others routes l (m ∷ ms) hl hs others = All-cons (λ y. place_of (route_names routes) l.to ≢ y) (place_of (route_names routes) m.to) (map (λ k. k.to) (map (send_in (route_names routes)) ms))
    (places-apart routes l.to m.to hl (All-head (λ k. has_route routes k.to ≡ true) m ms hs) (All-head (λ k. same_send l k ≡ false) m ms others))
    (send-others routes l ms hl (All-tail (λ k. has_route routes k.to ≡ true) m ms hs) (All-tail (λ k. same_send l k ≡ false) m ms others))

pub sends-apart : (routes : List text.RouteText.RouteText) (ls : List text.SendText.SendText) → All (λ m. has_route routes m.to ≡ true) ls → AllPairs (λ l m. same_send l m ≡ false) ls →
    AreApart (map (λ k. k.to) (map (send_in (route_names routes)) ls))
sends-apart routes [] hs apart = λ i j d l m. absurd (omega arith)
sends-apart routes (l ∷ ls) hs apart = AllPairs-cons (λ x y. x ≢ y) (place_of (route_names routes) l.to) (map (λ k. k.to) (map (send_in (route_names routes)) ls))
    (send-others routes l ls (All-head (λ k. has_route routes k.to ≡ true) l ls hs) (All-tail (λ k. has_route routes k.to ≡ true) l ls hs) (λ k d h. apart 0 (suc k) d (omega arith) (omega arith)))
    (sends-apart routes ls (All-tail (λ k. has_route routes k.to ≡ true) l ls hs) (λ i j d h m. apart (suc i) (suc j) d (omega arith) (omega arith)))

-- ---- names

differ : (m n : List ℕ) → bytes_eq m n ≡ false → m ≢ n
differ m n e same = let t : bytes_eq m n ≡ true = (bytes_eq-Decides m n).1 same in cc

name-others : (x : List ℕ) (ps : List text.RouteText.RouteText) → x ≢ codes "master" → All (λ p. bytes_eq x p.named.name ≡ false) ps → All (λ y. x ≢ y) (route_names ps ++ codes "master" ∷ [])
name-others x [] other h = All-cons (λ y. x ≢ y) (codes "master") [] other (All-nil (λ y. x ≢ y))
name-others x (p ∷ ps) other h = All-cons (λ y. x ≢ y) p.named.name (route_names ps ++ codes "master" ∷ [])
    (differ x p.named.name (All-head (λ q. bytes_eq x q.named.name ≡ false) p ps h))
    (name-others x ps other (All-tail (λ q. bytes_eq x q.named.name ≡ false) p ps h))

apart-names : (routes : List text.RouteText.RouteText) → All IsRoute routes → AllPairs (λ q p. same_route q p ≡ false) routes → AreApart (route_names routes ++ codes "master" ∷ [])
apart-names [] all apart = λ i j d l m. absurd (omega arith)
apart-names (q ∷ qs) all apart = AllPairs-cons (λ x y. x ≢ y) q.named.name (route_names qs ++ codes "master" ∷ [])
    (name-others q.named.name qs (differ q.named.name (codes "master") (All-head IsRoute q qs all).other) (λ k d h. apart 0 (suc k) d (omega arith) (omega arith)))
    (apart-names qs (All-tail IsRoute q qs all) (λ i j d h m. apart (suc i) (suc j) d (omega arith) (omega arith)))

source-others : (x : List ℕ) (ds : List SourceDecl) → All (λ e. bytes_eq x e.name ≡ false) ds → All (λ y. x ≢ y) (source_names ds)
source-others x [] h = All-nil (λ y. x ≢ y)
source-others x (d ∷ ds) h = All-cons (λ y. x ≢ y) d.name (source_names ds) (differ x d.name (All-head (λ e. bytes_eq x e.name ≡ false) d ds h))
    (source-others x ds (All-tail (λ e. bytes_eq x e.name ≡ false) d ds h))

apart-sources : (ds : List SourceDecl) → AllPairs (λ d e. same_source d e ≡ false) ds → AreApart (source_names ds)
apart-sources [] apart = λ i j d l m. absurd (omega arith)
apart-sources (d ∷ ds) apart = AllPairs-cons (λ x y. x ≢ y) d.name (source_names ds)
    (source-others d.name ds (λ k e h. apart 0 (suc k) e (omega arith) (omega arith)))
    (apart-sources ds (λ i j e h m. apart (suc i) (suc j) e (omega arith) (omega arith)))

route-names : (f : ℕ → RouteKind) (names : List (List ℕ)) (n : ℕ) (routes : List text.RouteText.RouteText) → map (λ q. q.name) (numbered (λ p. route_in names (f p)) n routes) ≡ route_names routes
unfolding route_in
route-names f names n [] = refl
route-names f names n (q ∷ qs) = ap (λ ns. q.named.name ∷ ns) (route-names f names (suc n) qs)

laid-names : (ts : Texts) (bs : List text.RouteText.RouteText) (ch : ℕ) (m : text.MasterText.MasterText) → map (λ q. q.name) (Laid ts bs ch m) ≡ route_names (Routes ts bs) ++ codes "master" ∷ []
unfolding master_in
laid-names ts bs ch m = map-append (λ (q : Route). q.name) (routes_in (length (Owns ts)) (Routes ts bs)) (master_in ch m ∷ [])
    ∙ ap (λ ns. ns ++ codes "master" ∷ []) (route-names (kind_in (length (Owns ts))) (route_names (Routes ts bs)) 0 (Routes ts bs))

-- ---- regions

all-with : (P : Region → Type 0) (r : Region) (qs : List Region) → P r → All P qs → All P (with_region r qs)
all-with P r [] h all = All-cons P r [] h all
all-with P r (q ∷ qs) h all = by_test (is_below r q)
    (λ e. let K : List Region → Type 0 = All P in let is : with_region r (q ∷ qs) ≡ r ∷ q ∷ qs = rw e refl in subst K (sym is) (All-cons P r (q ∷ qs) h all))
    (λ e. let K : List Region → Type 0 = All P in let is : with_region r (q ∷ qs) ≡ q ∷ with_region r qs = rw e refl in
    subst K (sym is) (All-cons P q (with_region r qs) (All-head P q qs all) (all-with P r qs h (All-tail P q qs all))))

pub all-playlist : (P : Region → Type 0) (names : List (List ℕ)) (rs : List text.RegionText.RegionText) → All (λ r. P (region_in names r)) rs → All P (playlist_in names rs)
all-playlist P names [] all = All-nil P
all-playlist P names (r ∷ rs) all = all-with P (region_in names r) (playlist_in names rs) (All-head (λ t. P (region_in names t)) r rs all) (all-playlist P names rs (All-tail (λ t. P (region_in names t)) r rs all))

-- ---- the session of a text

pub record Fits (w : text.Written.Written) : Type 0 where
  pub range : IsInRange w
  pub keeps : Keeps (routes_of w) (tracks_of w) w.sources.items w.head.channels

pub limits : (w : text.Written.Written) → Fits w → HasLimits (built w)
unfolding session_in
limits w f =
    let h = f.range.head in
    let long = laid-long w.tracks.items w.busses.items w.head.channels w.master in
    let many = numbered-long (track_in (source_names w.sources.items)) 0 (tracks_of w) in
    record {
      rate = record { least = h.slowest; most = h.fastest };
      block = record { least = h.block_least; most = h.block_most };
      depth = record { least = h.depth_least; most = h.depth_most };
      ring = h.ring;
      sources = f.range.few_sources;
      tracks = omega (arith, many, length-map w.tracks.items (λ k. k.own), f.range.few_tracks);
      routes = omega (arith, long, length-append (map (λ k. k.route) w.tracks.items) w.busses.items, length-map w.tracks.items (λ k. k.route), f.range.few_routes);
      master = omega (arith, many, long, tracks-within w.tracks.items w.busses.items);
    }

pub names : (w : text.Written.Written) → Fits w → HasNames (built w)
unfolding session_in
names w f = record {
  sources = apart-sources w.sources.items f.keeps.sources_apart;
  routes = subst (λ (ns : List (List ℕ)). AreApart ns) (sym (laid-names w.tracks.items w.busses.items w.head.channels w.master))
      (apart-names (routes_of w) (all-routes w.tracks.items w.busses.items f.range.tracks f.range.busses) f.keeps.routes_apart);
}

pub sources : (ds : List SourceDecl) → All IsSource ds → All IsFormedSource ds
sources [] all = All-nil IsFormedSource
sources (d ∷ ds) all = let h = All-head IsSource d ds all in
    All-cons IsFormedSource d ds (record { channels = record { least = h.channels_least; most = h.channels_most } }) (sources ds (All-tail IsSource d ds all))
