-- The routes of a session by their places.
use Rattle.std.proofs.Common.{◌≡◌, ℕ, ◌<◌, ◌&&◌, ◌||◌, List, [], ◌∷◌, length, map, get_or, refl, ap, ap₂, ◌∙◌, sym}
use Rattle.std.specs.Prelude.{is_some, slice_get}
use Rattle.std.specs.Option.{option_map_or}
use Rattle.std.specs.List.{list_any}
use Rattle.std.proofs.lemmas.Option.{slice_get_read}
use Rattle.sound_model.specs.Routes as sound
use Rattle.session_model.specs.declared.route.RouteKind.{RouteKind}
use Rattle.session_model.specs.declared.route.RouteKind.TheVariants.{Track as OfTrack, Bus, Master}
use Rattle.session_model.specs.declared.route.Route.{Route}
use Rattle.session_model.specs.declared.track.Track.{Track}
use Rattle.session_model.specs.declared.session.Session.{Session}
use Rattle.session_model.specs.Formed.{channels_at}
use Rattle.session_model.specs.Views.{route_of, is_soloed, track_number}

-- the channels of a route that was read
pub channels_read : (s : Session) (items : List Route) (r : ℕ) (q : Route) → items ≡ s.routes.items → r < length items → q ≡ get_or items r q → channels_at s r ≡ q.channels
channels_read s items r q same h it =
    ap (λ rs. option_map_or (λ x. x.channels) (slice_get rs r) 0) (sym same)
    ∙ ap (λ o. option_map_or (λ x. x.channels) o 0) (slice_get_read items (length items) r q refl h it)

-- only tracks are soloed
track_soloed : (tracks : List Track) (kind : RouteKind) → (is_some (track_number kind) && is_soloed tracks kind) ≡ is_soloed tracks kind
track_soloed tracks (OfTrack t) = refl
track_soloed tracks Bus = refl
track_soloed tracks Master = refl

pub solo_is_any : (tracks : List Track) (routes : List Route) → list_any (λ q. is_soloed tracks q.kind) routes ≡ sound.any_solo (map (route_of tracks) routes)
solo_is_any tracks [] = refl
solo_is_any tracks (q ∷ qs) = ap₂ (λ a b. a || b) (sym (track_soloed tracks q.kind)) (solo_is_any tracks qs)
