-- No rule refuses what the text of a valid session says.
use Rattle.std.proofs.Common.{◌≡◌, ◌≢◌, ℕ, ◌<◌, ◌≤◌, Bool, true, false, not, ◌==◌, nat_lt, refl, ap, sym, ◌∙◌, subst, arith, List, [], ◌∷◌, ◌++◌, length, map, get_or, slice_get, All, Option, Some, None, is_some, IsSomeAnd, bytes_eq}
use Rattle.std.specs.Prelude.{AllPairs, Ok}
use Rattle.std.specs.List.{zip}
use Rattle.std.specs.Option.{option_map_or}
use Rattle.std.proofs.lemmas.Bool.Decides.{nat_tests}
use Rattle.std.proofs.lemmas.List.{get_or-map, get_or_append_left, length-map, length-append, map-append}
use Rattle.std.proofs.lemmas.List.Elements.{All-map}
use Rattle.std.proofs.lemmas.List.Folds.{list_any_none}
use Rattle.sound_laws.proofs.Cases.{by_test}
use Rattle.sound_model.specs.Regions as sound
use Rattle.session_model.specs.declared.route.SendLink.{SendLink}
use Rattle.session_model.specs.declared.route.Route.{Route}
use Rattle.session_model.specs.declared.track.Track.{Track}
use Rattle.session_model.specs.declared.session.SourceDecl.{SourceDecl}
use Rattle.session_model.specs.declared.session.Session.{Session}
use Rattle.session_model.specs.Formed.{HasSource}
use Rattle.session_model.specs.Lists.{AreApart}
use Rattle.session_model.specs.Playlist.{IsPlaylist}
use Rattle.session_walk.specs.declared.said as text
use Rattle.session_toml.specs.Rules.{first_twice, same_source, same_route, same_send, same_region, has_source, has_route, is_track, source_channels, route_channels, region_twice, lost_source, first_target, shows_other, narrows, rules}
use Rattle.session_toml.specs.Session.{rules_of}
use Rattle.session_toml.proofs.LookLaws.{got, got-within}
use Rattle.session_text.specs.Said.{name_at, out_name, said_region, said_send, said_route, said_track, said_of, track_routes, busses, source_names, route_names}
use Rattle.session_text.proofs.ListLaws.{there, map-map, zip-first, all-at, find-nothing, nothing-given, none-twice}
use Rattle.session_text.proofs.NameLaws.{others, shown}
use Rattle.session_text.proofs.DeskLaws.{Desk, front, in-front, names-apart, out, texts, owns, Leads, leads-to}
use Rattle.session_text.proofs.SaidLaws.{Pair, pair}

-- ---- routes and sources have names of their own

-- items whose keys are apart are the same by no two keys
by-key : {A : Type 0} (key : A → List ℕ) (xs : List A) → AreApart (map key xs) → AllPairs (λ x y. bytes_eq (key x) (key y) ≡ false) xs
by-key key xs apart = λ i j d l m.
    let e = apart i j (key d) l (omega (arith, length-map xs key)) in
    others (key (get_or xs i d)) (key (get_or xs j d)) (λ t. e (get_or-map key xs i d (key d) (omega arith) ∙ t ∙ sym (get_or-map key xs j d (key d) m)))

pairs-map : {A B : Type 0} (f : A → B) (R : B → B → Type 0) (xs : List A) → AllPairs (λ x y. R (f x) (f y)) xs → AllPairs R (map f xs)
pairs-map {A} {B} f R xs all = λ i j d l m.
    let within : j < length xs = omega (arith, length-map xs f) in
    let c : A = (there xs j within).0 in
    let P : B → Type 0 = λ y. R y (get_or (map f xs) j d) in
    let Q : B → Type 0 = λ z. R (f (get_or xs i c)) z in
    subst P (sym (get_or-map f xs i c d (omega arith))) (subst Q (sym (get_or-map f xs j c d within)) (all i j c l within))

pairs-front : {A : Type 0} (R : A → A → Type 0) (xs ys : List A) → AllPairs R (xs ++ ys) → AllPairs R xs
pairs-front {A} R xs ys all = λ i j d l m.
    let P : A → Type 0 = λ x. R x (get_or xs j d) in
    let Q : A → Type 0 = λ y. R (get_or (xs ++ ys) i d) y in
    subst P (get_or_append_left xs ys d i (omega arith)) (subst Q (get_or_append_left xs ys d j m) (all i j d l (omega (arith, length-append xs ys))))

routes-once : (s : Session) → (d : Desk s) → first_twice same_route (texts s) ≡ None
unfolding said_route
routes-once s d = none-twice same_route (texts s) (pairs-map (said_route (route_names s)) (λ q p. same_route q p ≡ false) (front s)
    (pairs-front (λ q p. bytes_eq q.name p.name ≡ false) (front s) (d.last ∷ []) (by-key (λ (q : Route). q.name) (front s ++ d.last ∷ []) (names-apart s d))))

sources-once : (s : Session) → (d : Desk s) → first_twice same_source s.sources.items ≡ None
sources-once s d = none-twice same_source s.sources.items (by-key (λ (e : SourceDecl). e.name) s.sources.items d.formed.names.sources)

-- ---- the sends of a route lead to different names

names-differ : (ns : List (List ℕ)) (i j : ℕ) → AreApart ns → i < length ns → j < length ns → i ≢ j → name_at ns i ≢ name_at ns j
names-differ ns i j apart h l other = by_test (nat_lt i j)
    (λ t. apart i j [] (grind (arith, nat_tests)) l)
    (λ t. let past : j ≤ i = grind (arith, nat_tests) in λ same. apart j i [] (omega (arith, past, other)) h (sym same))

sends-once : (s : Session) → (d : Desk s) → (i : ℕ) (q : Route) → slice_get (front s) i ≡ Some q → first_twice same_send (map (said_send (route_names s)) q.sends.items) ≡ None
sends-once s d i q e =
    let f = d.formed.routes i q (in-front s d i q e) in
    none-twice same_send (map (said_send (route_names s)) q.sends.items) (pairs-map (said_send (route_names s)) (λ l m. same_send l m ≡ false) q.sends.items (λ j k c l m.
    let to : (n : ℕ) → n < length q.sends.items → (get_or q.sends.items n c).to < length (route_names s) = λ n h.
    let next = (leads-to s d q (get_or q.sends.items n c).to (f.sends n c h)).there in
    omega (arith, got-within s.routes.items _ next.0 next.1, length-map s.routes.items (λ (q : Route). q.name)) in
    let at : (n : ℕ) → n < length q.sends.items → get_or (map (λ (l : SendLink). l.to) q.sends.items) n 0 ≡ (get_or q.sends.items n c).to = λ n h. get_or-map (λ (l : SendLink). l.to) q.sends.items n c 0 h in
    let apart = f.apart j k 0 l (omega (arith, length-map q.sends.items (λ (l : SendLink). l.to))) in
    others _ _ (names-differ (route_names s) _ _ d.formed.names.routes (to j (omega arith)) (to k m) (λ same. apart (at j (omega arith) ∙ same ∙ sym (at k m))))))

-- ---- what a route leads to

target-nothing : (passes : List ℕ → Bool) (q : text.RouteText.RouteText) → passes q.strip.out ≡ false → All (λ l. passes l.to ≡ false) q.sends.items → first_target passes q ≡ None
target-nothing passes q out sends = rw (out, find-nothing (λ l. passes l.to) q.sends.items sends) refl

-- no name that a route leads to passes a test
led-nothing : (s : Session) → (d : Desk s) → (passes : List ℕ → Bool) (i : ℕ) (q : Route) → slice_get (front s) i ≡ Some q →
    ((to : ℕ) → Leads s d.last q.channels to → passes (name_at (route_names s) to) ≡ false) → first_target passes (said_route (route_names s) q) ≡ None
unfolding said_route
led-nothing s d passes i q e none =
    let o = out s d i q e in
    let f = d.formed.routes i q (in-front s d i q e) in
    target-nothing passes (said_route (route_names s) q)
    (ap (λ (t : Option ℕ). passes (out_name (route_names s) t)) o.is ∙ none o.to (leads-to s d q o.to o.may))
    (All-map (λ l. passes l.to ≡ false) (said_send (route_names s)) q.sends.items (λ j c h. none (get_or q.sends.items j c).to (leads-to s d q (get_or q.sends.items j c).to (f.sends j c h))))

not-narrow : (n m : ℕ) → n ≤ m → (n == 2) ≡ true → (m == 1) ≡ false
not-narrow n m h e = let two : n ≡ 2 = grind (arith, nat_tests) in let more : 2 ≤ m = omega (arith, two) in grind (arith, nat_tests)

narrows-nothing : (s : Session) → (d : Desk s) → (i : ℕ) (q : Route) → slice_get (front s) i ≡ Some q → narrows (texts s) d.last.channels (said_route (route_names s) q) ≡ false
unfolding said_route
narrows-nothing s d i q e = by_test (q.channels == 2)
    (λ t. rw (t, led-nothing s d (λ name. route_channels (texts s) d.last.channels name == 1) i q e (λ to l. not-narrow q.channels _ l.wide t)) refl)
    (λ t. rw t refl)

-- ---- the regions of a track

regions-once : (sources : List (List ℕ)) (list : List sound.Region) → IsPlaylist list → first_twice same_region (map (said_region sources) list) ≡ None
unfolding said_region
regions-once sources list is = none-twice same_region (map (said_region sources) list) (pairs-map (said_region sources) (λ r t. same_region r t ≡ false) list
    (λ i j d l m. let e = is.apart i j d l m in numbers (get_or list i d).id (get_or list j d).id e))
  where
    numbers : (a b : ℕ) → a ≢ b → (a == b) ≡ false
    numbers a b e = grind (arith, nat_tests)

-- each shows a source of the track's channels
region-shown : (s : Session) → (d : Desk s) → (i : ℕ) (p : Route × Track) → Pair s i p → (r : sound.Region) → HasSource s p.0.channels r →
    (has_source s.sources.items (name_at (source_names s) r.source) ≡ true) × ((source_channels s.sources.items (name_at (source_names s) r.source) == p.0.channels) ≡ true)
region-shown s d i p at r h = go (slice_get s.sources.items r.source) refl h
  where
    same-number : (a b c : ℕ) → a ≡ b → b ≡ c → (a == c) ≡ true
    same-number a b c e f = grind (arith, nat_tests)

    go : (o : Option SourceDecl) → slice_get s.sources.items r.source ≡ o → IsSomeAnd o (λ e. e.channels ≡ p.0.channels) →
        (has_source s.sources.items (name_at (source_names s) r.source) ≡ true) × ((source_channels s.sources.items (name_at (source_names s) r.source) == p.0.channels) ≡ true)
    go (Some e) is f = let found = shown s.sources.items r.source e d.formed.names.sources is in (found.has, same-number _ e.channels p.0.channels found.channels f)
    go None is f = absurd f

record TrackRules (s : Session) (k : text.TrackOwn.TrackOwn) : Type 0 where
  once : region_twice k ≡ None
  shown : lost_source s.sources.items k ≡ None
  alike : shows_other s.sources.items k ≡ false

track-rules : (s : Session) → (d : Desk s) → (i : ℕ) (p : Route × Track) → Pair s i p → TrackRules s (said_track (source_names s) (route_names s) p).own
unfolding said_track said_region
track-rules s d i (q, k) at =
    let list = got (λ (k : Track). IsPlaylist k.list) s.tracks.items i k d.kept.playlists at.track in
    let f = d.formed.tracks i k at.track in
    let P : ℕ → Type 0 = λ n. All (HasSource s n) k.list in
    let regions : All (HasSource s q.channels) k.list = subst P at.channels f.regions in
    let each = λ (j : ℕ) (c : sound.Region) (h : j < length k.list). region-shown s d i (q, k) at (get_or k.list j c) (regions j c h) in
    record {
      once = rw (regions-once (source_names s) k.list list) refl;
      shown = rw (find-nothing (λ r. not (has_source s.sources.items r.source)) (map (said_region (source_names s)) k.list)
          (All-map (λ r. not (has_source s.sources.items r.source) ≡ false) (said_region (source_names s)) k.list (λ j c h. ap not (each j c h).0))) refl;
      alike = list_any_none (λ r. not (source_channels s.sources.items r.source == q.channels)) (map (said_region (source_names s)) k.list)
          (All-map (λ r. not (source_channels s.sources.items r.source == q.channels) ≡ false) (said_region (source_names s)) k.list (λ j c h. ap not (each j c h).1));
    }

-- ---- the rules

all-tracks : (s : Session) → (d : Desk s) → (P : text.TrackOwn.TrackOwn → Type 0) → ((k : text.TrackOwn.TrackOwn) → TrackRules s k → P k) → All P (owns s)
all-tracks s d P each = All-map P (λ (k : text.TrackText.TrackText). k.own) (map (said_track (source_names s) (route_names s)) (zip (track_routes s) s.tracks.items))
    (All-map (λ k. P k.own) (said_track (source_names s) (route_names s)) (zip (track_routes s) s.tracks.items)
    (all-at _ _ (λ i p e. each (said_track (source_names s) (route_names s) p).own (track-rules s d i p (pair s d i p e)))))

all-routes : (s : Session) → (P : text.RouteText.RouteText → Type 0) → ((i : ℕ) (q : Route) → slice_get (front s) i ≡ Some q → P (said_route (route_names s) q)) → All P (texts s)
all-routes s P each = All-map P (said_route (route_names s)) (front s) (all-at (λ q. P (said_route (route_names s) q)) (front s) each)

sent-once : (s : Session) → (d : Desk s) → (i : ℕ) (q : Route) → slice_get (front s) i ≡ Some q → is_some (first_twice same_send (said_route (route_names s) q).sends.items) ≡ false
unfolding said_route
sent-once s d i q e = ap is_some (sends-once s d i q e)

pub keeps-rules : (s : Session) → (d : Desk s) → rules (texts s) (owns s) s.sources.items d.last.channels ≡ Ok tt
unfolding rules
keeps-rules s d = rw (
  routes-once s d,
  sources-once s d,
  find-nothing (λ q. is_some (first_twice same_send q.sends.items)) (texts s) (all-routes s (λ q. is_some (first_twice same_send q.sends.items) ≡ false) (sent-once s d)),
  nothing-given region_twice (owns s) (all-tracks s d (λ k. region_twice k ≡ None) (λ k t. t.once)),
  nothing-given (lost_source s.sources.items) (owns s) (all-tracks s d (λ k. lost_source s.sources.items k ≡ None) (λ k t. t.shown)),
  nothing-given (first_target (λ name. not (has_route (texts s) name))) (texts s)
      (all-routes s (λ q. first_target (λ name. not (has_route (texts s) name)) q ≡ None) (λ i q e. led-nothing s d (λ name. not (has_route (texts s) name)) i q e (λ to l. ap not l.has))),
  nothing-given (first_target (is_track (owns s))) (texts s) (all-routes s (λ q. first_target (is_track (owns s)) q ≡ None) (λ i q e. led-nothing s d (is_track (owns s)) i q e (λ to l. l.no_track))),
  find-nothing (shows_other s.sources.items) (owns s) (all-tracks s d (λ k. shows_other s.sources.items k ≡ false) (λ k t. t.alike)),
  find-nothing (narrows (texts s) d.last.channels) (texts s) (all-routes s (λ q. narrows (texts s) d.last.channels q ≡ false) (narrows-nothing s d)),
) refl

-- ---- the parts of the text

pub routes-are : (s : Session) → Desk s → map (λ k. k.route) (map (said_track (source_names s) (route_names s)) (zip (track_routes s) s.tracks.items)) ++ map (said_route (route_names s)) (busses s) ≡ texts s
unfolding said_track
routes-are s d =
    let names = route_names s in
    let tracks = zip (track_routes s) s.tracks.items in
    ap (λ (qs : List text.RouteText.RouteText). qs ++ map (said_route names) (busses s))
    (map-map (said_track (source_names s) names) (λ (k : text.TrackText.TrackText). k.route) tracks ∙ sym (map-map (λ (p : Route × Track). p.0) (said_route names) tracks)
    ∙ ap (map (said_route names)) (zip-first (track_routes s) s.tracks.items d.beside))
    ∙ sym (map-append (said_route names) (track_routes s) (busses s))

pub none-refused : (s : Session) → Desk s → rules_of (said_of s) ≡ Ok tt
unfolding said_of
none-refused s d = rw (routes-are s d, ap (λ (o : Option Route). option_map_or (λ q. q.channels) o 0) d.at) (keeps-rules s d)
