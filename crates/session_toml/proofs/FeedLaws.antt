-- Where the routes of a text that keeps the rules lead to.
use Rattle.std.proofs.Common.{◌≡◌, ◌≢◌, ℕ, ◌≤◌, ◌⊎◌, inl, inr, Bool, true, false, not, ◌&&◌, ◌||◌, ◌==◌, refl, ap, sym, ◌∙◌, subst, arith, List, [], ◌∷◌, ◌++◌, length, map, find, get_or, slice_get, All, Option, Some, None, is_some, bytes_eq, codes}
use Rattle.std.specs.List.{list_any}
use Rattle.std.specs.Option.{option_map, option_map_or}
use Rattle.std.proofs.lemmas.Bool.Decides.{nat_tests}
use Rattle.std.proofs.lemmas.Slice.Eq.{bytes_eq-Decides}
use Rattle.std.proofs.lemmas.List.{map-append, length-map}
use Rattle.std.proofs.lemmas.List.Elements.{All-nil, All-cons, All-head, All-tail, All-append}
use Rattle.sound_laws.proofs.Cases.{by_test, or_parts}
use Rattle.session_model.specs.declared.route.Route.{Route}
use Rattle.session_walk.specs.declared.said as text
use Rattle.session_walk.specs.InRange.{IsRoute, IsTrack}
use Rattle.session_toml.specs.Rules.{has_route, is_track, first_target, route_channels, narrows}
use Rattle.session_toml.specs.Built.{place_of, route_names, kind_in, route_in, master_in, routes_in}
use Rattle.session_toml.proofs.RuleLaws.{find-none}
use Rattle.session_toml.proofs.NumberedLaws.{numbered-long}
use Rattle.session_toml.proofs.LookLaws.{got-within, got-front, got-last, got-numbered, IsThere, IsLost, looked-up, behind}

abbrev pub Texts : Type 0
Texts = List text.TrackText.TrackText

-- the routes of tracks and busses, and what the tracks have beside
abbrev pub Routes : Texts → List text.RouteText.RouteText → List text.RouteText.RouteText
Routes ts bs = map (λ k. k.route) ts ++ bs

abbrev pub Owns : Texts → List text.TrackOwn.TrackOwn
Owns ts = map (λ k. k.own) ts

-- the routes of the session
abbrev pub Laid : Texts → List text.RouteText.RouteText → ℕ → text.MasterText.MasterText → List Route
Laid ts bs ch m = routes_in (length (Owns ts)) (Routes ts bs) ++ master_in ch m ∷ []

pub track-routes : (ts : Texts) → All IsTrack ts → All IsRoute (map (λ k. k.route) ts)
track-routes [] all = All-nil IsRoute
track-routes (t ∷ ts) all = let head = All-head IsTrack t ts all in All-cons IsRoute t.route (map (λ k. k.route) ts) head.route (track-routes ts (All-tail IsTrack t ts all))

pub all-routes : (ts : Texts) (bs : List text.RouteText.RouteText) → All IsTrack ts → All IsRoute bs → All IsRoute (Routes ts bs)
all-routes ts bs all busses = All-append IsRoute (map (λ k. k.route) ts) bs (track-routes ts all) busses

-- ---- where a name leads

pub record Next (ts : Texts) (bs : List text.RouteText.RouteText) (ch : ℕ) (m : text.MasterText.MasterText) (name : List ℕ) : Type 0 where
  pub route : Route
  pub at : slice_get (Laid ts bs ch m) (place_of (route_names (Routes ts bs)) name) ≡ Some route
  pub channels : route.channels ≡ route_channels (Routes ts bs) ch name

abbrev key : text.RouteText.RouteText → List ℕ
key q = q.named.name

pub next-at : (ts : Texts) (bs : List text.RouteText.RouteText) (ch : ℕ) (m : text.MasterText.MasterText) (name : List ℕ) → Next ts bs ch m name
unfolding route_in master_in
next-at ts bs ch m name = go (looked-up key (Routes ts bs) name)
  where
    f : ℕ → text.RouteText.RouteText → Route
    f place = route_in (route_names (Routes ts bs)) (kind_in (length (Owns ts)) place)

    go : ((x : text.RouteText.RouteText) × IsThere key (Routes ts bs) name x) ⊎ IsLost key (Routes ts bs) name → Next ts bs ch m name
    go (inl (x, t)) = let place : ℕ = place_of (route_names (Routes ts bs)) name in record {
      route = route_in (route_names (Routes ts bs)) (kind_in (length (Owns ts)) place) x;
      at = got-front (routes_in (length (Owns ts)) (Routes ts bs)) (master_in ch m ∷ []) place _
          (got-numbered (λ p. route_in (route_names (Routes ts bs)) (kind_in (length (Owns ts)) p)) 0 place (Routes ts bs) place x (omega arith) t.at);
      channels = sym (ap (λ o. option_map_or (λ q. q.named.channels) o ch) t.found);
    }
    go (inr l) = record {
      route = master_in ch m;
      at = ap (slice_get (Laid ts bs ch m)) (l.place ∙ sym (numbered-long (λ p. route_in (route_names (Routes ts bs)) (kind_in (length (Owns ts)) p)) 0 (Routes ts bs)))
          ∙ got-last (routes_in (length (Owns ts)) (Routes ts bs)) (master_in ch m);
      channels = sym (ap (λ o. option_map_or (λ q. q.named.channels) o ch) l.found);
    }

-- each route has a channel
channels-least : (routes : List text.RouteText.RouteText) (ch : ℕ) (name : List ℕ) → All IsRoute routes → 1 ≤ ch → 1 ≤ route_channels routes ch name
channels-least [] ch name all some = some
channels-least (q ∷ qs) ch name all some = by_test (bytes_eq q.named.name name)
    (λ e. rw e (All-head IsRoute q qs all).channels_least)
    (λ e. rw e (channels-least qs ch name (All-tail IsRoute q qs all) some))

-- ---- what a route leads to

record NotLed (p : List ℕ → Bool) (q : text.RouteText.RouteText) : Type 0 where
  out : p q.strip.out ≡ false
  sends : All (λ l. p l.to ≡ false) q.sends.items

not-led : (p : List ℕ → Bool) (q : text.RouteText.RouteText) → first_target p q ≡ None → NotLed p q
not-led p q e = by_test (p q.strip.out)
    (λ t. absurd (led t (rw t at e)))
    (λ t. record { out = t; sends = find-none (λ l. p l.to) q.sends.items (unmapped (find (λ l. p l.to) q.sends.items) (rw t at e)) })
  where
    led : p q.strip.out ≡ true → Some q.strip.out ≡ None → ⊥
    led t f = cc

    unmapped : (o : Option text.SendText.SendText) → option_map (λ l. l.to) o ≡ None → o ≡ None
    unmapped None f = refl
    unmapped (Some l) f = cc

-- a route leads to a name: it is there, is no track, and has channels enough
pub record Leads (ts : Texts) (bs : List text.RouteText.RouteText) (ch : ℕ) (channels : ℕ) (name : List ℕ) : Type 0 where
  pub there : has_route (Routes ts bs) name ≡ true
  pub no_track : is_track (Owns ts) name ≡ false
  pub wide : channels ≤ route_channels (Routes ts bs) ch name

pub record LeadsWell (ts : Texts) (bs : List text.RouteText.RouteText) (ch : ℕ) (q : text.RouteText.RouteText) : Type 0 where
  pub out : Leads ts bs ch q.named.channels q.strip.out
  pub sends : All (λ l. Leads ts bs ch q.named.channels l.to) q.sends.items

negated : (b : Bool) → not b ≡ false → b ≡ true
negated true e = refl
negated false e = cc

wide-enough : (a c : ℕ) → 1 ≤ a → a ≤ 2 → 1 ≤ c → (a ≡ 2 → (c == 1) ≡ false) → a ≤ c
wide-enough a c least most some other = by_test (a == 2) (λ e. two (grind (arith, nat_tests))) (λ e. one (grind (arith, nat_tests)))
  where
    two : a ≡ 2 → a ≤ c
    two e = let f = other e in let g : c ≢ 1 = grind (arith, nat_tests) in omega (arith, e, g, some)

    one : a ≢ 2 → a ≤ c
    one e = omega (arith, e, least, most, some)

pub leads-well : (ts : Texts) (bs : List text.RouteText.RouteText) (ch : ℕ) (q : text.RouteText.RouteText) → All IsRoute (Routes ts bs) → 1 ≤ ch → IsRoute q →
    first_target (λ name. not (has_route (Routes ts bs) name)) q ≡ None → first_target (is_track (Owns ts)) q ≡ None → narrows (Routes ts bs) ch q ≡ false → LeadsWell ts bs ch q
leads-well ts bs ch q all some is there busses wide = record {
  out = record { there = negated _ here.out; no_track = track.out; wide = enough q.strip.out (λ e. (only e).out) };
  sends = λ i d h. let l = get_or q.sends.items i d in record { there = negated _ (here.sends i d h); no_track = track.sends i d h; wide = enough l.to (λ e. (only e).sends i d h) };
}
  where
    here : NotLed (λ name. not (has_route (Routes ts bs) name)) q
    here = not-led (λ name. not (has_route (Routes ts bs) name)) q there

    track : NotLed (is_track (Owns ts)) q
    track = not-led (is_track (Owns ts)) q busses

    none : (b : Bool) (o : Option (List ℕ)) → b ≡ true → (b && is_some o) ≡ false → o ≡ None
    none true None e f = refl
    none true (Some x) e f = cc
    none false o e f = cc

    only : q.named.channels ≡ 2 → NotLed (λ name. route_channels (Routes ts bs) ch name == 1) q
    only e = not-led (λ name. route_channels (Routes ts bs) ch name == 1) q
        (none (q.named.channels == 2) (first_target (λ name. route_channels (Routes ts bs) ch name == 1) q) (grind (arith, nat_tests)) wide)

    enough : (name : List ℕ) → (q.named.channels ≡ 2 → (route_channels (Routes ts bs) ch name == 1) ≡ false) → q.named.channels ≤ route_channels (Routes ts bs) ch name
    enough name other = wide-enough q.named.channels (route_channels (Routes ts bs) ch name) is.channels_least is.channels_most (channels-least (Routes ts bs) ch name all some) other

-- ---- a name that is no track's stands behind the tracks

own-none : (ts : Texts) (name : List ℕ) → All IsTrack ts → is_track (Owns ts) name ≡ false → list_any (λ q. bytes_eq q.named.name name) (map (λ k. k.route) ts) ≡ false
own-none [] name all e = refl
own-none (t ∷ ts) name all e =
    let (here, rest) = or_parts (bytes_eq t.own.named.name name) (is_track (Owns ts) name) e in
    let same : t.own.named ≡ t.route.named = (All-head IsTrack t ts all).named in
    let first : bytes_eq t.route.named.name name ≡ false = ap (λ n. bytes_eq n.name name) (sym same) ∙ here in
    rw (first, own-none ts name (All-tail IsTrack t ts all) rest) refl

pub behind-tracks : (ts : Texts) (bs : List text.RouteText.RouteText) (name : List ℕ) → All IsTrack ts → is_track (Owns ts) name ≡ false → length (Owns ts) ≤ place_of (route_names (Routes ts bs)) name
behind-tracks ts bs name all e = subst (λ (n : ℕ). n ≤ place_of (route_names (Routes ts bs)) name) (length-map ts (λ k. k.route) ∙ sym (length-map ts (λ k. k.own)))
    (subst (λ (ns : List (List ℕ)). length (map (λ k. k.route) ts) ≤ place_of ns name) (sym (map-append key (map (λ k. k.route) ts) bs))
    (behind key (map (λ k. k.route) ts) (map key bs) name (own-none ts name all e)))

-- ---- places of different names

same-bytes : (a b : List ℕ) → bytes_eq a b ≡ true → a ≡ b
same-bytes a b e = (bytes_eq-Decides a b).0 e

one-name : (a b : List ℕ) → a ≡ b → bytes_eq a b ≡ true
one-name a b e = (bytes_eq-Decides a b).1 e

is-master : (routes : List text.RouteText.RouteText) (name : List ℕ) → has_route routes name ≡ true → list_any (λ q. bytes_eq q.named.name name) routes ≡ false → name ≡ codes "master"
is-master routes name has none = same-bytes name (codes "master") (either (bytes_eq name (codes "master")) (list_any (λ q. bytes_eq q.named.name name) routes) has none)
  where
    either : (a b : Bool) → (a || b) ≡ true → b ≡ false → a ≡ true
    either true b e f = refl
    either false b e f = cc

pub places-apart : (routes : List text.RouteText.RouteText) (a b : List ℕ) → has_route routes a ≡ true → has_route routes b ≡ true → bytes_eq a b ≡ false → place_of (route_names routes) a ≢ place_of (route_names routes) b
places-apart routes a b ha hb other same = go (looked-up key routes a) (looked-up key routes b)
  where
    differ : a ≡ b → ⊥
    differ e = let t = one-name a b e in cc

    go : ((x : text.RouteText.RouteText) × IsThere key routes a x) ⊎ IsLost key routes a → ((y : text.RouteText.RouteText) × IsThere key routes b y) ⊎ IsLost key routes b → ⊥
    go (inl (x, t)) (inl (y, u)) =
        let one : Some x ≡ Some y = sym t.at ∙ ap (slice_get routes) same ∙ u.at in
        let is : x ≡ y = cc in
        differ (sym (same-bytes (key x) a t.has) ∙ ap key is ∙ same-bytes (key y) b u.has)
    go (inl (x, t)) (inr l) = absurd (omega (arith, got-within routes _ x t.at, same, l.place))
    go (inr l) (inl (y, u)) = absurd (omega (arith, got-within routes _ y u.at, same, l.place))
    go (inr l) (inr m) = differ (is-master routes a ha l.none ∙ sym (is-master routes b hb m.none))
