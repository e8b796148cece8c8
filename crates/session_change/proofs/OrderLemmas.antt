-- A change of no link leaves every order of the routes one.
use Rattle.std.proofs.Common.{◌≡◌, ℕ, zero, suc, ◌<◌, List, [], ◌∷◌, length, map, refl, sym, subst, ◌∙◌, All}
use Rattle.std.specs.Prelude.{false}
use Rattle.std.proofs.lemmas.Bool.{true≢false}
use Rattle.std.proofs.lemmas.List.{length-map}
use Rattle.sound_model.specs.Routes as sound
use Rattle.sound_model.specs.Routes.{links, feeds}
use Rattle.session_model.specs.declared.route.Route.{Route}
use Rattle.session_model.specs.declared.track.Track.{Track}
use Rattle.session_model.specs.declared.session.Session.{Session}
use Rattle.session_model.specs.Views.{route_of, routes_of}
use Rattle.route_graph.specs.Order.{IsOrder}
use Rattle.engine_model.specs.Changes.{Change, TransportOnly, Armed, Soloed, Muted, Faded, Panned, InMode, PointSet, PointUnset, Leads, SendSet, SendUnset, RegionPut, RegionTaken, changed_at, with_route, with_track, made}
use Rattle.engine_laws.proofs.ChangeLemmas.{fixed_stays}
use Rattle.engine_laws.proofs.FixedLemmas.{many_routes}
use Rattle.session_change.specs.Change.{relinks}
use Rattle.session_change.specs.Laws.{AChangeThatRelinksNothingKeepsTheOrder}

-- an order asks of routes only how many there are, and which of them feed which
same_order : (rs qs : List sound.Route) (order : List ℕ) → length qs ≡ length rs → ((f t : ℕ) → links qs f t ≡ links rs f t) → IsOrder rs order → IsOrder qs order
same_order rs qs order long same h = record {
  places = subst (λ n. All (λ r. r < n) order) (sym long) h.places;
  every = λ r within. h.every r (subst (λ n. r < n) long within);
  once = h.once;
  long = h.long ∙ sym long;
  feeders_first = λ i j f t first second link. h.feeders_first i j f t first second (sym (same f t) ∙ link);
}

-- ---- links

-- which routes feed which doesn't hang on the tracks
other_tracks : (old new : List Track) (qs : List Route) (from to : ℕ) → links (map (route_of new) qs) from to ≡ links (map (route_of old) qs) from to
other_tracks old new [] from to = refl
other_tracks old new (q ∷ qs) zero to = refl
other_tracks old new (q ∷ qs) (suc from) to = other_tracks old new qs from to

by_track : (s : Session) (f : Track → Track) (t from to : ℕ) → links (routes_of (with_track f t s)) from to ≡ links (routes_of s) from to
by_track s f t from to = other_tracks s.tracks.items (changed_at f t s.tracks.items) s.routes.items from to

by_route : (s : Session) (f : Route → Route) (r from to : ℕ) → ((q : Route) → feeds (route_of s.tracks.items (f q)) to ≡ feeds (route_of s.tracks.items q) to) →
    links (routes_of (with_route f r s)) from to ≡ links (routes_of s) from to
by_route s f r from to same = by_list r s.routes.items from
  where
    by_list : (i : ℕ) (qs : List Route) (from : ℕ) → links (map (route_of s.tracks.items) (changed_at f i qs)) from to ≡ links (map (route_of s.tracks.items) qs) from to
    by_list i [] from = refl
    by_list zero (q ∷ qs) zero = same q
    by_list zero (q ∷ qs) (suc from) = refl
    by_list (suc i) (q ∷ qs) zero = refl
    by_list (suc i) (q ∷ qs) (suc from) = by_list i qs from

links_stay : (s : Session) (c : Change) (from to : ℕ) → relinks c ≡ false → links (routes_of (made s c)) from to ≡ links (routes_of s) from to
links_stay s TransportOnly from to none = refl
links_stay s (Armed t on) from to none = by_track s _ t from to
links_stay s (Soloed t on) from to none = by_track s _ t from to
links_stay s (Muted r on) from to none = by_route s _ r from to (λ q. refl)
links_stay s (Faded r gain) from to none = by_route s _ r from to (λ q. refl)
links_stay s (Panned r left right) from to none = by_route s _ r from to (λ q. refl)
links_stay s (InMode r mode) from to none = by_route s _ r from to (λ q. refl)
links_stay s (PointSet r p) from to none = by_route s _ r from to (λ q. refl)
links_stay s (PointUnset r place) from to none = by_route s _ r from to (λ q. refl)
links_stay s (Leads r next) from to none = absurd (true≢false none)
links_stay s (SendSet r link) from to none = absurd (true≢false none)
links_stay s (SendUnset r next) from to none = absurd (true≢false none)
links_stay s (RegionPut t r) from to none = by_track s _ t from to
links_stay s (RegionTaken t id) from to none = by_track s _ t from to

pub a_change_that_relinks_nothing_keeps_the_order : AChangeThatRelinksNothingKeepsTheOrder
a_change_that_relinks_nothing_keeps_the_order s c order none =
    same_order (routes_of s) (routes_of (made s c)) order
    (length-map (made s c).routes.items (route_of (made s c).tracks.items) ∙ many_routes s (made s c) (fixed_stays s c) ∙ sym (length-map s.routes.items (route_of s.tracks.items)))
    (λ f t. links_stay s c f t none)
