-- One route more along an order, and the master when all routes are done.
use Rattle.std.proofs.Common.{◌≡◌, ℕ, suc, ◌+◌, ◌-◌, ◌*◌, ◌<◌, ◌≤◌, Bool, List, [], ◌∷◌, ◌++◌, length, take, drop, replicate, get_or, ⊎_elim, Option, Some, None, refl, ap, sym, subst, ◌∙◌, arith}
use Rattle.std.specs.Prelude.{ℤ, pos, ◌+ℤ◌, slice_get, nat_lt, ◌==◌, if◌then◌else◌, IfSome}
use Rattle.std.specs.Option.{option_map}
use Rattle.std.proofs.lemmas.Bool.{ltb-true, eq-eqb}
use Rattle.std.proofs.lemmas.List.{get_or-replicate, length-take-le, take-append-drop, take_more, drop_more}
use Rattle.std.proofs.lemmas.Int.{ints}
use Rattle.std.proofs.lemmas.List.Elements.{All-replicate}
use Rattle.std.proofs.lemmas.Option.{slice_get-map, slice_get_cases, slice_get_within}
use Rattle.sound_model.specs.Numbers.{clip}
use Rattle.sound_model.specs.Routes as sound
use Rattle.sound_model.specs.Routes.{any_solo, feeds, fed, pre, post, post_of, route_input, master_sample}
use Rattle.sound_laws.specs.Desks.{LeadsWide, OnlyLinksFeed}
use Rattle.sound_laws.proofs.Cases.{by_test}
use Rattle.session_model.specs.declared.route.RouteKind.TheVariants.{Track as OfTrack, Bus, Master}
use Rattle.session_model.specs.declared.route.Route.{Route}
use Rattle.session_model.specs.declared.session.Session.{Session}
use Rattle.session_model.specs.Formed.{IsFormed, IsFormedRoute, channels_at, kind_at}
use Rattle.session_model.specs.Valid.{IsValid}
use Rattle.session_model.specs.Views.{route_of, routes_of, track_number}
use Rattle.mix_kernel.specs.Bounds.{IsNear, AllNear, GoesOn}
use Rattle.route_graph.specs.Order.{IsOrder}
use Rattle.route_graph.specs.Walks.{plain}
use Rattle.route_graph.proofs.GraphLaws.{as_many}
use Rattle.engine_model.specs.Played.{master_channels}
use Rattle.engine_laws.proofs.WideLemmas.{channels_seen, track_place}
use Rattle.mix_laws.specs.Mixing as mixing
use Rattle.mix_laws.specs.Mixing.{OrderMixes, OrderIsWhole, TracksTakeTheirOwn, AlongGoesOn, fed_along}
use Rattle.offline_render.specs.declared.routes.Taps.{Taps}
use Rattle.offline_render.specs.Frame.{samples}
use Rattle.offline_render.specs.Links.{own, gives_at, AreGiven}
use Rattle.offline_render.specs.Walk.{taken_in, AreFed}
use Rattle.offline_render.proofs.OwnLemmas.{own_within, fed_own, fed_by_taps}
use Rattle.offline_render.proofs.SumLemmas.{all_wider}

-- a route of a session as the sound has it
pub seen_at : (s : Session) (r : ℕ) (q : Route) → slice_get s.routes.items r ≡ Some q → slice_get (routes_of s) r ≡ Some (route_of s.tracks.items q)
seen_at s r q there = slice_get-map (route_of s.tracks.items) s.routes.items r ∙ ap (option_map (route_of s.tracks.items)) there

pub record Seen (s : Session) (r : ℕ) : Type 0 where
  pub route : sound.Route
  pub there : slice_get (routes_of s) r ≡ Some route
  pub wide : channels_at s r ≡ route.channels

pub seen : (s : Session) (r : ℕ) → r < length s.routes.items → Seen s r
seen s r h = ⊎_elim
    (λ w. let there = seen_at s r w.0 w.2 in record { route = route_of s.tracks.items w.0; there = there; wide = channels_seen s r (route_of s.tracks.items w.0) there })
    (λ w. absurd (omega (arith, w.0, h))) (slice_get_cases s.routes.items r).1

-- ---- what a route takes in

module _ (s : Session) (valid : IsValid s) (order : List ℕ) (is : IsOrder (routes_of s) order) (tracks : List ℤ) (place c : ℕ) where
  abbrev inputs : ℕ → ℕ → ℤ
  inputs = route_input (routes_of s) (samples tracks) place

  -- the order, cut at a place
  cut : (i : ℕ) → i < length order → order ≡ take i order ++ get_or order i 0 ∷ drop (i + 1) order
  cut i h = sym (take-append-drop i order) ∙ ap (λ back. take i order ++ back) (drop_more order i 0 h)

  pub input_is : OrderMixes → TracksTakeTheirOwn → (i : ℕ) (q : Route) (sums : List ℤ) → i < length order → slice_get s.routes.items (get_or order i 0) ≡ Some q →
      AreFed s tracks place c (take i order) sums →
      taken_in tracks (own q.channels c) (get_or sums (get_or order i 0) (pos 0)) (track_number q.kind) ≡ route_input (routes_of s) (samples tracks) place (get_or order i 0) (own q.channels c)
  input_is mixes takes i q sums h there walked = by_kind (track_number q.kind) refl
    where
      r : ℕ
      r = get_or order i 0

      at : slice_get (routes_of s) r ≡ Some (route_of s.tracks.items q)
      at = seen_at s r q there

      wide : channels_at s r ≡ q.channels
      wide = channels_seen s r (route_of s.tracks.items q) at

      whole : get_or sums r (pos 0) ≡ fed_along (routes_of s) inputs place r q.channels (own q.channels c) (take i order)
      whole = walked.each r (slice_get_within s.routes.items r q there) ∙ ap (λ n. fed_along (routes_of s) inputs place r n (own n c) (take i order)) wide

      by_kind : (o : Option ℕ) → track_number q.kind ≡ o → taken_in tracks (own q.channels c) (get_or sums r (pos 0)) o ≡ route_input (routes_of s) (samples tracks) place r (own q.channels c)
      by_kind (Some t) e = sym (takes (routes_of s) (samples tracks) place r (own q.channels c) t (route_of s.tracks.items q) valid.no_cycle at e)
      by_kind None e = ap clip whole
          ∙ sym (mixes (routes_of s) (take i order) (drop (i + 1) order) (samples tracks) place r (own q.channels c) (route_of s.tracks.items q) valid.no_cycle
          (subst (IsOrder (routes_of s)) (cut i h) is) at e)

  -- what one route more gives
  pub one_more : OnlyLinksFeed → AlongGoesOn → LeadsWide (routes_of s) → (i : ℕ) (q : Route) (input : ℤ) (p : Taps) (old new : List ℤ) → i < length order →
      slice_get s.routes.items (get_or order i 0) ≡ Some q → input ≡ route_input (routes_of s) (samples tracks) place (get_or order i 0) (own q.channels c) →
      p.before ≡ pre (any_solo (routes_of s)) (route_of s.tracks.items q) input → p.behind ≡ post (any_solo (routes_of s)) (route_of s.tracks.items q) place input →
      AreGiven s (λ to. gives_at s c (plain q) to p) old new → GoesOn 309237645312 old new → length new ≡ length old →
      AreFed s tracks place c (take i order) old → AreFed s tracks place c (take (i + 1) order) new
  one_more only goes leads i q input p old new h there is_input before behind given farther long walked = record {
    room = long ∙ walked.room;
    each = each;
    near = all_wider (length (take i order) * 309237645312 + 309237645312) _ new (omega (arith, length-take-le i order, length-take-le (i + 1) order)) (farther (length (take i order) * 309237645312) walked.near);
  }
    where
      routes : List sound.Route
      routes = routes_of s

      r : ℕ
      r = get_or order i 0

      at : slice_get routes r ≡ Some (route_of s.tracks.items q)
      at = seen_at s r q there

      solo : Bool
      solo = any_solo routes

      -- what it gives to another
      gives : (to : ℕ) → to < length s.routes.items → mixing.fed_at solo place to (channels_at s to) (own (channels_at s to) c) (inputs r) (slice_get routes r) ≡ gives_at s c (plain q) to p
      gives to low = let next = seen s to low in
          ap (mixing.fed_at solo place to (channels_at s to) (own (channels_at s to) c) (inputs r)) at
          ∙ fed_own only solo place to (channels_at s to) c (route_of s.tracks.items q) (inputs r) (leads.some r (route_of s.tracks.items q) at).0
          (subst (λ n. n ≤ 2) (sym next.wide) (leads.some to next.route next.there).1)
          (λ e. subst (λ n. q.channels ≤ n) (sym next.wide) (leads.wide r to (route_of s.tracks.items q) next.route at next.there e))
          ∙ ap (λ v. fed solo place to (channels_at s to) (own (channels_at s to) c) (route_of s.tracks.items q) (λ k. v)) (sym is_input)
          ∙ fed_by_taps s solo place to c q input p before behind

      each : (to : ℕ) → to < length s.routes.items → get_or new to (pos 0) ≡ fed_along routes inputs place to (channels_at s to) (own (channels_at s to) c) (take (i + 1) order)
      each to low =
          given to low ∙ ap (λ v. v +ℤ gives_at s c (plain q) to p) (walked.each to low)
          ∙ ap (λ v. fed_along routes inputs place to (channels_at s to) (own (channels_at s to) c) (take i order) +ℤ v) (sym (gives to low))
          ∙ sym (goes routes inputs place to (channels_at s to) (own (channels_at s to) c) r (take i order))
          ∙ ap (fed_along routes inputs place to (channels_at s to) (own (channels_at s to) c)) (sym (take_more order i 0 h))

-- ---- what a step asks

pub track_there : (s : Session) (tracks : List ℤ) (r : ℕ) (q : Route) → q.kind ≡ kind_at (length s.tracks.items) (length s.routes.items) r → length tracks ≡ 2 * length s.tracks.items →
    IfSome (track_number q.kind) (λ t. 2 * t + 1 < length tracks)
track_there s tracks r q kind long = by_kind (track_number q.kind) refl
  where
    by_kind : (o : Option ℕ) → track_number q.kind ≡ o → IfSome o (λ t. 2 * t + 1 < length tracks)
    by_kind None e = tt
    by_kind (Some t) e = let here = track_place (length s.tracks.items) (length s.routes.items) r t (ap track_number (sym kind) ∙ e) in omega (arith, here.0, here.1)

pub sums_near : (order : List ℕ) (i : ℕ) (sums : List ℤ) → length order ≤ 64 → i ≤ length order → AllNear (length (take i order) * 309237645312) sums → AllNear 281474976710656 sums
sums_near order i sums few h near = all_wider (length (take i order) * 309237645312) 281474976710656 sums (omega (arith, length-take-le i order)) near

-- ---- the master

master_kind : (tracks routes : ℕ) → tracks < routes → track_number (kind_at tracks routes (routes - 1)) ≡ None
master_kind tracks routes h = by_test (nat_lt (routes - 1) tracks)
    (λ e. absurd (omega (arith, ltb-true (routes - 1) tracks e)))
    (λ e. let last : suc (routes - 1) ≡ routes = omega arith in
    ap (λ b. track_number (if b then OfTrack (routes - 1) else (if suc (routes - 1) == routes then Master else Bus))) e
    ∙ ap (λ b. track_number (if b then Master else Bus)) (eq-eqb (suc (routes - 1)) routes last))

pub master_is : (s : Session) (valid : IsValid s) (order : List ℕ) (tracks : List ℤ) (place c : ℕ) → OrderIsWhole → IsOrder (routes_of s) order →
    (q : Route) (sums : List ℤ) → slice_get s.routes.items (length s.routes.items - 1) ≡ Some q → c < q.channels → AreFed s tracks place c order sums →
    post (any_solo (routes_of s)) (route_of s.tracks.items q) place (clip (get_or sums (length s.routes.items - 1) (pos 0))) ≡ master_sample (routes_of s) (samples tracks) place c
master_is s valid order tracks place c whole is q sums there h walked =
    ap (post (any_solo (routes_of s)) (route_of s.tracks.items q) place) (ap clip fed_all ∙ sym input)
    ∙ ap (post_of (any_solo (routes_of s)) place (route_input (routes_of s) (samples tracks) place (length s.routes.items - 1) c)) (sym at)
    ∙ ap (λ n. post_of (any_solo (routes_of s)) place (route_input (routes_of s) (samples tracks) place n c) (slice_get (routes_of s) n)) long
  where
    at : slice_get (routes_of s) (length s.routes.items - 1) ≡ Some (route_of s.tracks.items q)
    at = seen_at s (length s.routes.items - 1) q there

    long : length s.routes.items - 1 ≡ length (routes_of s) - 1
    long = ap (λ n. n - 1) (sym (as_many s))

    formed : IsFormedRoute s (length s.routes.items - 1) q
    formed = valid.formed.routes (length s.routes.items - 1) q there

    bus : track_number q.kind ≡ None
    bus = ap track_number formed.kind ∙ master_kind (length s.tracks.items) (length s.routes.items) valid.formed.limits.master

    wide : channels_at s (length s.routes.items - 1) ≡ q.channels
    wide = channels_seen s (length s.routes.items - 1) (route_of s.tracks.items q) at

    here : own q.channels c ≡ c
    here = own_within q.channels c formed.channels.least h formed.channels.most

    fed_all : get_or sums (length s.routes.items - 1) (pos 0) ≡ fed_along (routes_of s) (route_input (routes_of s) (samples tracks) place) place (length s.routes.items - 1) q.channels c order
    fed_all = walked.each (length s.routes.items - 1) (slice_get_within s.routes.items (length s.routes.items - 1) q there)
        ∙ ap (λ n. fed_along (routes_of s) (route_input (routes_of s) (samples tracks) place) place (length s.routes.items - 1) n (own n c) order) wide
        ∙ ap (λ n. fed_along (routes_of s) (route_input (routes_of s) (samples tracks) place) place (length s.routes.items - 1) q.channels n order) here

    input : route_input (routes_of s) (samples tracks) place (length s.routes.items - 1) c
        ≡ clip (fed_along (routes_of s) (route_input (routes_of s) (samples tracks) place) place (length s.routes.items - 1) q.channels c order)
    input = whole (routes_of s) order (samples tracks) place (length s.routes.items - 1) c (route_of s.tracks.items q) valid.no_cycle is at bus

-- ---- where nothing is done

pub none_fed : (s : Session) (tracks : List ℤ) (place c : ℕ) → length s.routes.items ≤ 64 → AreFed s tracks place c [] (replicate 64 (pos 0))
none_fed s tracks place c few = record {
  room = refl;
  each = λ r h. get_or-replicate 64 r (pos 0) (pos 0) (omega arith);
  near = All-replicate (IsNear 0) 64 (pos 0) (omega (arith, ints), omega (arith, ints));
}

pub master_few : (s : Session) → IsFormed s → (c : ℕ) → c < master_channels s → c < 2
master_few s formed c h = let last : length s.routes.items - 1 < length s.routes.items = omega (arith, formed.limits.master) in
    ⊎_elim
    (λ w. let wide = channels_seen s (length s.routes.items - 1) (route_of s.tracks.items w.0) (seen_at s (length s.routes.items - 1) w.0 w.2) in
    let most = (formed.routes (length s.routes.items - 1) w.0 w.2).channels.most in omega (arith, wide, most, h))
    (λ w. absurd (omega (arith, w.0, last))) (slice_get_cases s.routes.items (length s.routes.items - 1)).1
