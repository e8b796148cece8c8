-- What two sessions have alike whose fixed parts are one.
use Rattle.std.proofs.Common.{◌≡◌, ℕ, zero, suc, List, [], ◌∷◌, length, map, refl, sym, ap, ◌∙◌}
use Rattle.std.specs.Prelude.{slice_get}
use Rattle.std.specs.Option.{option_map_or}
use Rattle.std.proofs.lemmas.List.{length-map}
use Rattle.session_model.specs.declared.route.Route.{Route}
use Rattle.session_model.specs.declared.track.Track.{Track}
use Rattle.session_model.specs.declared.session.Session.{Session}
use Rattle.session_model.specs.Formed.{channels_at}
use Rattle.engine_model.specs.Fixed.{FixedRoute, FixedTrack, fixed_of}

abbrev pub fixed_route : Route → FixedRoute
fixed_route q = record { name = q.name; kind = q.kind; channels = q.channels }

abbrev pub fixed_track : Track → FixedTrack
fixed_track k = record { route = k.route; input = k.input }

module _ (s z : Session) (same : fixed_of z ≡ fixed_of s) where
  pub many_tracks : length z.tracks.items ≡ length s.tracks.items
  many_tracks = sym (length-map z.tracks.items fixed_track) ∙ ap (λ x. length x.tracks) same ∙ length-map s.tracks.items fixed_track

  pub many_routes : length z.routes.items ≡ length s.routes.items
  many_routes = sym (length-map z.routes.items fixed_route) ∙ ap (λ x. length x.routes) same ∙ length-map s.routes.items fixed_route

  pub channels_stay : (place : ℕ) → channels_at z place ≡ channels_at s place
  channels_stay place = by_fixed z.routes.items place ∙ ap (λ x. option_map_or (λ (q : FixedRoute). q.channels) (slice_get x.routes place) 0) same ∙ sym (by_fixed s.routes.items place)
    where
      by_fixed : (qs : List Route) (i : ℕ) → option_map_or (λ (q : Route). q.channels) (slice_get qs i) 0 ≡ option_map_or (λ (q : FixedRoute). q.channels) (slice_get (map fixed_route qs) i) 0
      by_fixed [] i = refl
      by_fixed (q ∷ qs) zero = refl
      by_fixed (q ∷ qs) (suc i) = by_fixed qs i
