-- The session of a text that is in range and keeps the rules is formed.
use Rattle.std.proofs.Common.{◌≡◌, ◌≢◌, ℕ, suc, ◌+◌, ◌<◌, ◌≤◌, ◌⊎◌, inl, inr, Bool, true, false, not, ◌==◌, refl, ap, sym, ◌∙◌, subst, arith, List, [], ◌∷◌, length, map, find, get_or, slice_get, All, Option, Some, None, is_some, IfSome, IsSomeAnd}
use Rattle.std.specs.Prelude.{AllPairs, Ok}
use Rattle.std.specs.List.{list_any}
use Rattle.std.specs.Option.{option_map, option_map_or}
use Rattle.std.proofs.lemmas.Bool.Decides.{nat_tests}
use Rattle.std.proofs.lemmas.List.{length-append, length-map}
use Rattle.std.proofs.lemmas.List.Elements.{All-nil, All-cons, All-head, All-tail}
use Rattle.sound_laws.proofs.Cases.{or_parts}
use Rattle.session_model.specs.declared.route.Route.{Route}
use Rattle.session_model.specs.declared.track.Track.{Track}
use Rattle.session_model.specs.declared.session.SourceDecl.{SourceDecl}
use Rattle.session_model.specs.Formed.{kind_at, MayFeed, IsFormedRoute, channels_at, HasSource, IsFormedTrack, IsFormed}
use Rattle.session_model.specs.declared.refusal.SessionRefusal.TheVariants.{RegionTwice}
use Rattle.session_model.specs.Lists.{EachAt}
use Rattle.session_toml.specs.Apart.{ArePlayable}
use Rattle.session_walk.specs.declared.said as text
use Rattle.session_walk.specs.InRange.{IsRoute, IsTrack, IsInRange}
use Rattle.session_toml.specs.Rules.{has_source, has_route, is_track, first_target, narrows, region_twice, same_send, same_region, first_twice, lost_source, shows_other, source_channels}
use Rattle.session_toml.specs.Built.{place_of, numbered, route_names, source_names, send_in, kind_in, route_in, master_in, routes_in, region_in, playlist_in, track_in, session_in}
use Rattle.session_toml.specs.Session.{routes_of, tracks_of, rules_of, built}
use Rattle.session_toml.proofs.NumberedLaws.{numbered-long}
use Rattle.session_toml.proofs.LookLaws.{got, got-within, got-front, got-either, got-map, got-from, got-numbered, got-from-numbered, IsThere, IsLost, looked-up}
use Rattle.session_toml.proofs.RuleLaws.{rules-kept, all-apart, find-none}
use Rattle.session_toml.proofs.FeedLaws.{Texts, Owns, Laid, all-routes, next-at, Leads, LeadsWell, leads-well, behind-tracks}
use Rattle.session_toml.proofs.BuiltLaws.{laid-long, tracks-within, kind-is, master-kind, leads-on, none-twice, sends-apart, all-playlist, Fits, limits, names, sources}

-- ---- its routes

feeds : (w : text.Written.Written) → Fits w → (q : Route) (name : List ℕ) → Leads w.tracks.items w.busses.items w.head.channels q.channels name →
    MayFeed (built w) q (place_of (route_names (routes_of w)) name)
unfolding session_in
feeds w f q name leads =
    let next = next-at w.tracks.items w.busses.items w.head.channels w.master name in
    let many = numbered-long (track_in (source_names w.sources.items)) 0 (tracks_of w) in
    record {
      no_track = omega (arith, many, behind-tracks w.tracks.items w.busses.items name f.range.tracks leads.no_track);
      wide = let P : Option Route → Type 0 = λ o. IsSomeAnd o (λ n. q.channels ≤ n.channels) in subst P (sym next.at) (omega (arith, next.channels, leads.wide));
    }

fed-sends : (w : text.Written.Written) → Fits w → (q : Route) (ls : List text.SendText.SendText) → All (λ l. Leads w.tracks.items w.busses.items w.head.channels q.channels l.to) ls →
    All (λ l. MayFeed (built w) q l.to) (map (send_in (route_names (routes_of w))) ls)
fed-sends w f q [] all = All-nil (λ l. MayFeed (built w) q l.to)
fed-sends w f q (l ∷ ls) all = let P : text.SendText.SendText → Type 0 = λ k. Leads w.tracks.items w.busses.items w.head.channels q.channels k.to in
    All-cons (λ k. MayFeed (built w) q k.to) (send_in (route_names (routes_of w)) l) (map (send_in (route_names (routes_of w))) ls)
    (feeds w f q l.to (All-head P l ls all)) (fed-sends w f q ls (All-tail P l ls all))

well : (w : text.Written.Written) → Fits w → (i : ℕ) (q : text.RouteText.RouteText) → slice_get (routes_of w) i ≡ Some q → LeadsWell w.tracks.items w.busses.items w.head.channels q
well w f i q e =
    let all = all-routes w.tracks.items w.busses.items f.range.tracks f.range.busses in
    leads-well w.tracks.items w.busses.items w.head.channels q all f.range.head.channels_least (got IsRoute (routes_of w) i q all e)
    (got (λ p. first_target (λ name. not (has_route (routes_of w) name)) p ≡ None) (routes_of w) i q f.keeps.there e)
    (got (λ p. first_target (is_track (tracks_of w)) p ≡ None) (routes_of w) i q f.keeps.busses e) (got (λ p. narrows (routes_of w) w.head.channels p ≡ false) (routes_of w) i q f.keeps.wide e)

kind-there : (w : text.Written.Written) → Fits w → (i : ℕ) → i < length (routes_of w) → kind_in (length (tracks_of w)) i ≡ kind_at (length (built w).tracks.items) (length (built w).routes.items) i
unfolding session_in
kind-there w f i h = kind-is (length (tracks_of w)) i (length (routes_of w)) h
    ∙ ap (λ n. kind_at n (suc (length (routes_of w))) i) (sym (numbered-long (track_in (source_names w.sources.items)) 0 (tracks_of w)))
    ∙ ap (λ n. kind_at (length (built w).tracks.items) n i) (sym (laid-long w.tracks.items w.busses.items w.head.channels w.master))

one-route : (w : text.Written.Written) → Fits w → (i : ℕ) (q : text.RouteText.RouteText) → slice_get (routes_of w) i ≡ Some q →
    IsFormedRoute (built w) i (route_in (route_names (routes_of w)) (kind_in (length (tracks_of w)) i) q)
unfolding route_in
one-route w f i q e =
    let all = all-routes w.tracks.items w.busses.items f.range.tracks f.range.busses in
    let is = got IsRoute (routes_of w) i q all e in
    let leads = well w f i q e in
    let made = route_in (route_names (routes_of w)) (kind_in (length (tracks_of w)) i) q in
    let there : All (λ m. has_route (routes_of w) m.to ≡ true) q.sends.items = λ k d h. (leads.sends k d h).there in
    record {
      kind = kind-there w f i (got-within (routes_of w) i q e);
      channels = record { least = is.channels_least; most = is.channels_most };
      output = leads-on (built w) made (length (tracks_of w)) i (feeds w f made q.strip.out leads.out);
      few = omega (arith, length-map q.sends.items (send_in (route_names (routes_of w))), is.few);
      room = omega arith;
      sends = fed-sends w f made q.sends.items leads.sends;
      apart = sends-apart (routes_of w) q.sends.items there
          (all-apart same_send q.sends.items (none-twice (first_twice same_send q.sends.items) (got (λ p. is_some (first_twice same_send p.sends.items) ≡ false) (routes_of w) i q f.keeps.sends_apart e)));
    }

the-master : (w : text.Written.Written) → Fits w → IsFormedRoute (built w) (length (routes_of w)) (master_in w.head.channels w.master)
unfolding session_in master_in
the-master w f = record {
  kind = master-kind (length (tracks_of w)) (length (routes_of w)) (tracks-within w.tracks.items w.busses.items)
      ∙ ap (λ n. kind_at n (suc (length (routes_of w))) (length (routes_of w))) (sym (numbered-long (track_in (source_names w.sources.items)) 0 (tracks_of w)))
      ∙ ap (λ n. kind_at (length (built w).tracks.items) n (length (routes_of w))) (sym (laid-long w.tracks.items w.busses.items w.head.channels w.master));
  channels = record { least = f.range.head.channels_least; most = f.range.head.channels_most };
  output = record { name = refl; left = refl; right = refl; target = refl; sends = refl };
  few = omega arith;
  room = omega arith;
  sends = All-nil _;
  apart = λ i j d l m. absurd (omega arith);
}

routes : (w : text.Written.Written) → Fits w → EachAt (IsFormedRoute (built w)) (Laid w.tracks.items w.busses.items w.head.channels w.master)
routes w f i z e = elim (got-either (routes_in (length (tracks_of w)) (routes_of w)) (master_in w.head.channels w.master) i z e) [
  | inl there ↦ let (q, at, is) = got-from-numbered (λ p. route_in (route_names (routes_of w)) (kind_in (length (tracks_of w)) p)) 0 i (routes_of w) i z (omega arith) there in
      let P : Route → Type 0 = IsFormedRoute (built w) i in subst P is (one-route w f i q at)
  | inr (last, is) ↦ let P : Route → Type 0 = IsFormedRoute (built w) (length (routes_of w)) in let Q : ℕ → Type 0 = λ n. IsFormedRoute (built w) n z in
      let here : i ≡ length (routes_of w) = last ∙ numbered-long (λ p. route_in (route_names (routes_of w)) (kind_in (length (tracks_of w)) p)) 0 (routes_of w) in
      subst Q (sym here) (subst P is (the-master w f))
]

-- ---- its tracks

any-none : {A : Type 0} (p : A → Bool) (xs : List A) → list_any p xs ≡ false → All (λ x. p x ≡ false) xs
any-none p [] e = All-nil (λ x. p x ≡ false)
any-none p (x ∷ xs) e = let (here, rest) = or_parts (p x) (list_any p xs) e in All-cons (λ y. p y ≡ false) x xs here (any-none p xs rest)

negated : (b : Bool) → not b ≡ false → b ≡ true
negated true e = refl
negated false e = cc

unmapped : {A B : Type 0} (f : A → B) (o : Option A) → option_map f o ≡ None → o ≡ None
unmapped f None e = refl
unmapped f (Some a) e = cc

abbrev name-of : SourceDecl → List ℕ
name-of d = d.name

has-source : (w : text.Written.Written) → (channels : ℕ) (r : text.RegionText.RegionText) → has_source w.sources.items r.source ≡ true → source_channels w.sources.items r.source ≡ channels →
    HasSource (built w) channels (region_in (source_names w.sources.items) r)
unfolding session_in region_in
has-source w channels r has same = go (looked-up name-of w.sources.items r.source)
  where
    go : ((d : SourceDecl) × IsThere name-of w.sources.items r.source d) ⊎ IsLost name-of w.sources.items r.source →
        IsSomeAnd (slice_get w.sources.items (place_of (source_names w.sources.items) r.source)) (λ d. d.channels ≡ channels)
    go (inl (d, t)) = let P : Option SourceDecl → Type 0 = λ o. IsSomeAnd o (λ e. e.channels ≡ channels) in
        subst P (sym t.at) (sym (ap (λ o. option_map_or (λ (e : SourceDecl). e.channels) o 0) t.found) ∙ same)
    go (inr l) = absurd (nothing l.none)
      where
        nothing : has_source w.sources.items r.source ≡ false → ⊥
        nothing e = cc

its-sources : (w : text.Written.Written) → (k : text.TrackOwn.TrackOwn) → lost_source w.sources.items k ≡ None → shows_other w.sources.items k ≡ false →
    All (λ r. HasSource (built w) k.named.channels (region_in (source_names w.sources.items) r)) k.regions.items
its-sources w k shown alike =
    let there = find-none (λ r. not (has_source w.sources.items r.source)) k.regions.items (unmapped (λ r. r.source) (find (λ r. not (has_source w.sources.items r.source)) k.regions.items) shown) in
    let same = any-none (λ r. not (source_channels w.sources.items r.source == k.named.channels)) k.regions.items alike in
    λ i d h. let r = get_or k.regions.items i d in
    has-source w k.named.channels r (negated (has_source w.sources.items r.source) (there i d h))
    (let e : (source_channels w.sources.items r.source == k.named.channels) ≡ true = negated (source_channels w.sources.items r.source == k.named.channels) (same i d h) in grind (arith, nat_tests))

one-track : (w : text.Written.Written) → Fits w → (i : ℕ) (t : text.TrackText.TrackText) → slice_get w.tracks.items i ≡ Some t →
    IsFormedTrack (built w) i (track_in (source_names w.sources.items) i t.own)
unfolding session_in track_in route_in
one-track w f i t e =
    let is = got IsTrack w.tracks.items i t f.range.tracks e in
    let own = got-map (λ (k : text.TrackText.TrackText). k.own) w.tracks.items i t e in
    let here = got-front (map (λ k. k.route) w.tracks.items) w.busses.items i t.route (got-map (λ (k : text.TrackText.TrackText). k.route) w.tracks.items i t e) in
    let make : ℕ → text.RouteText.RouteText → Route = λ p. route_in (route_names (routes_of w)) (kind_in (length (tracks_of w)) p) in
    let at = got-front (routes_in (length (tracks_of w)) (routes_of w)) (master_in w.head.channels w.master ∷ []) i (make i t.route) (got-numbered make 0 i (routes_of w) i t.route (omega arith) here) in
    let channels : channels_at (built w) i ≡ t.route.named.channels = ap (λ o. option_map_or (λ (q : Route). q.channels) o 0) at in
    let its = its-sources w t.own (got (λ k. lost_source w.sources.items k ≡ None) (tracks_of w) i t.own f.keeps.shown own) (got (λ k. shows_other w.sources.items k ≡ false) (tracks_of w) i t.own f.keeps.alike own) in
    let same : t.own.named.channels ≡ channels_at (built w) i = ap (λ n. n.channels) is.named ∙ sym channels in
    let P : ℕ → Type 0 = λ n. IfSome t.own.settings.input (λ first. first + n ≤ 8) in
    let Q : ℕ → Type 0 = λ n. All (HasSource (built w) n) (playlist_in (source_names w.sources.items) t.own.regions.items) in
    record {
      route = refl;
      input = subst P (sym channels) is.input;
      armed = is.armed;
      regions = subst Q same (all-playlist (HasSource (built w) t.own.named.channels) (source_names w.sources.items) t.own.regions.items its);
    }

tracks : (w : text.Written.Written) → Fits w → EachAt (IsFormedTrack (built w)) (numbered (track_in (source_names w.sources.items)) 0 (tracks_of w))
tracks w f i z e =
    let (k, at, is) = got-from-numbered (track_in (source_names w.sources.items)) 0 i (tracks_of w) i z (omega arith) e in
    let (t, there, own) = got-from (λ (t : text.TrackText.TrackText). t.own) w.tracks.items i k at in
    let P : Track → Type 0 = IsFormedTrack (built w) i in
    subst P (ap (track_in (source_names w.sources.items) i) own ∙ is) (one-track w f i t there)

pub is-formed : (w : text.Written.Written) (u : Unit {0}) → IsInRange w → rules_of w ≡ Ok u → IsFormed (built w)
unfolding session_in
is-formed w u range rules =
    let f : Fits w = record { range = range; keeps = rules-kept (routes_of w) (tracks_of w) w.sources.items w.head.channels u rules } in
    record { limits = limits w f; names = names w f; sources = sources w.sources.items range.sources; routes = routes w f; tracks = tracks w f }

-- ---- what the playlists of its tracks ask

ids-apart : (rs : List text.RegionText.RegionText) → AllPairs (λ r t. same_region r t ≡ false) rs → AllPairs (λ r t. r.id ≢ t.id) rs
ids-apart rs apart = λ i j d l m. let e = apart i j d l m in let a : ℕ = (get_or rs i d).id in let b : ℕ = (get_or rs j d).id in numbers a b e
  where
    numbers : (a b : ℕ) → (a == b) ≡ false → a ≢ b
    numbers a b e = grind (arith, nat_tests)

pub playable : (ts : Texts) → All IsTrack ts → All (λ k. region_twice k ≡ None) (Owns ts) → All (λ k. ArePlayable k.regions.items) (Owns ts)
playable [] all none = All-nil (λ k. ArePlayable k.regions.items)
playable (t ∷ ts) all none =
    let is = All-head IsTrack t ts all in
    let P : text.TrackOwn.TrackOwn → Type 0 = λ k. region_twice k ≡ None in
    All-cons (λ k. ArePlayable k.regions.items) t.own (Owns ts)
    (record {
      few = is.few;
      limits = is.regions;
      apart = ids-apart t.own.regions.items
          (all-apart same_region t.own.regions.items (unmapped (λ r. RegionTwice t.own.named.name r.id) (first_twice same_region t.own.regions.items) (All-head P t.own (Owns ts) none)));
    })
    (playable ts (All-tail IsTrack t ts all) (All-tail P t.own (Owns ts) none))

pub its-playlists : (w : text.Written.Written) (u : Unit {0}) → IsInRange w → rules_of w ≡ Ok u → All (λ k. ArePlayable k.regions.items) (tracks_of w)
its-playlists w u range rules = playable w.tracks.items range.tracks (rules-kept (routes_of w) (tracks_of w) w.sources.items w.head.channels u rules).regions_apart

few-sends : (qs : List text.RouteText.RouteText) → All IsRoute qs → All (λ q. length q.sends.items ≤ 8) qs
few-sends qs all = λ i d h. (all i d h).few

pub its-sends : (w : text.Written.Written) → IsInRange w → All (λ q. length q.sends.items ≤ 8) (routes_of w)
its-sends w range = few-sends (routes_of w) (all-routes w.tracks.items w.busses.items range.tracks range.busses)

pub routes-few : (w : text.Written.Written) → IsInRange w → length (routes_of w) ≤ 63
routes-few w range = omega (arith, length-append (map (λ k. k.route) w.tracks.items) w.busses.items, length-map w.tracks.items (λ k. k.route), range.few_routes)
