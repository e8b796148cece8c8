-- The routes of a formed session: each leads to one with no fewer channels, and those of tracks stand first.
use Rattle.std.proofs.Common.{◌≡◌, inl, inr, ℕ, zero, suc, ◌<◌, ◌≤◌, List, [], ◌∷◌, map, refl, sym, ap, subst, ◌∙◌}
use Rattle.std.specs.Prelude.{Bool, true, false, ◌==◌, nat_lt, if◌then◌else◌, Option, Some, None, slice_get, All, IsSomeAnd}
use Rattle.std.specs.Option.{option_map_or}
use Rattle.std.specs.List.{list_any}
use Rattle.std.proofs.lemmas.Bool.{eqb-true, ltb-true, or_cases}
use Rattle.std.proofs.lemmas.List.Elements.{All-head, All-tail}
use Rattle.sound_model.specs.Routes as sound
use Rattle.sound_model.specs.Routes.{leads_to}
use Rattle.sound_laws.specs.Desks.{LeadsWide}
use Rattle.session_model.specs.declared.route.SendLink.{SendLink}
use Rattle.session_model.specs.declared.route.RouteKind.{RouteKind}
use Rattle.session_model.specs.declared.route.RouteKind.TheVariants.{Track as OfTrack, Bus, Master}
use Rattle.session_model.specs.declared.route.Route.{Route}
use Rattle.session_model.specs.declared.session.Session.{Session}
use Rattle.session_model.specs.Formed.{MayFeed, LeadsOn, IsFormedRoute, IsFormed, kind_at, channels_at}
use Rattle.session_model.specs.Views.{route_of, routes_of, send_of, track_number}

-- ---- the routes as the definitions of the sound have them

pub record StandsFor (s : Session) (f : ℕ) (q : sound.Route) : Type 0 where
  pub route : Route
  pub there : slice_get s.routes.items f ≡ Some route
  pub seen : route_of s.tracks.items route ≡ q

pub route_seen : (s : Session) (f : ℕ) (q : sound.Route) → slice_get (routes_of s) f ≡ Some q → StandsFor s f q
route_seen s f q here = let is = from_map s.routes.items f here in record { route = is.0; there = is.1; seen = is.2 }
  where
    from_map : (qs : List Route) (i : ℕ) → slice_get (map (route_of s.tracks.items) qs) i ≡ Some q → (p : Route) × (slice_get qs i ≡ Some p) × (route_of s.tracks.items p ≡ q)
    from_map [] i e = cc
    from_map (p ∷ ps) zero e = let same : route_of s.tracks.items p ≡ q = cc in (p, refl, same)
    from_map (p ∷ ps) (suc i) e = from_map ps i e

pub channels_seen : (s : Session) (f : ℕ) (q : sound.Route) → slice_get (routes_of s) f ≡ Some q → channels_at s f ≡ q.channels
channels_seen s f q here = let is = route_seen s f q here in ap (λ o. option_map_or (λ x. x.channels) o 0) is.there ∙ ap (λ x. x.channels) is.seen

-- ---- links

module _ (s : Session) (formed : IsFormed s) where
  -- what is linked may be fed
  may_where : (p : Route) (to : ℕ) (o : Option ℕ) → IsSomeAnd o (MayFeed s p) → leads_to to o ≡ true → MayFeed s p to
  may_where p to None may e = absurd may
  may_where p to (Some x) may e = subst (MayFeed s p) (eqb-true x to e) may

  by_target : (p : Route) (kind : RouteKind) (to : ℕ) → LeadsOn s p kind → leads_to to p.target ≡ true → MayFeed s p to
  by_target p (OfTrack t) to leads e = may_where p to p.target leads e
  by_target p Bus to leads e = may_where p to p.target leads e
  by_target p Master to leads e = absurd (none_leads (ap (leads_to to) (sym leads.target) ∙ e))
    where
      none_leads : false ≡ true → ⊥
      none_leads h = cc

  by_sends : (p : Route) (to : ℕ) (ls : List SendLink) → All (λ l. MayFeed s p l.to) ls → list_any (λ x. x.to == to) (map send_of ls) ≡ true → MayFeed s p to
  by_sends p to [] all e = cc
  by_sends p to (l ∷ ls) all e = elim (or_cases (l.to == to) (list_any (λ (x : sound.Send). x.to == to) (map send_of ls)) e) [
    | inl this ↦ subst (MayFeed s p) (eqb-true l.to to this) (All-head (λ x. MayFeed s p x.to) l ls all)
    | inr other ↦ by_sends p to ls (All-tail (λ x. MayFeed s p x.to) l ls all) other
  ]

  may_feed : (f to : ℕ) (p : Route) → IsFormedRoute s f p → sound.feeds (route_of s.tracks.items p) to ≡ true → MayFeed s p to
  may_feed f to p h e = elim (or_cases (leads_to to p.target) (list_any (λ (x : sound.Send). x.to == to) (map send_of p.sends.items)) e) [
    | inl target ↦ by_target p p.kind to h.output target
    | inr send ↦ by_sends p to p.sends.items h.sends send
  ]

  pub leads_wide : LeadsWide (routes_of s)
  leads_wide = record {
    some = λ f q here. let is = route_seen s f q here in let channels = (formed.routes f is.route is.there).channels in
        subst (λ (x : sound.Route). (1 ≤ x.channels) × (x.channels ≤ 2)) is.seen (channels.least, channels.most);
    wide = λ f to q r here there e. let is = route_seen s f q here in let next = route_seen s to r there in
        let may = may_feed f to is.route (formed.routes f is.route is.there) (ap (λ x. sound.feeds x to) is.seen ∙ e) in
        subst (λ n. n ≤ r.channels) (ap (λ x. x.channels) is.seen) (subst (λ n. is.route.channels ≤ n) (ap (λ x. x.channels) next.seen)
        (subst (λ o. IsSomeAnd o (λ x. is.route.channels ≤ x.channels)) next.there may.wide));
  }

-- ---- tracks

-- a route that has a track's number stands at its place
pub track_place : (tracks routes f t : ℕ) → track_number (kind_at tracks routes f) ≡ Some t → (f < tracks) × (t ≡ f)
track_place tracks routes f t e = by_place (nat_lt f tracks) (suc f == routes) refl e
  where
    by_place : (b last : Bool) → nat_lt f tracks ≡ b → track_number (if b then OfTrack f else (if last then Master else Bus)) ≡ Some t → (f < tracks) × (t ≡ f)
    by_place true last is h = let same : t ≡ f = cc in (ltb-true f tracks is, same)
    by_place false true is h = cc
    by_place false false is h = cc
