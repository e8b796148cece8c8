-- A session that is read of another's text sounds as that one does: the room of a list is in no sound.
use Rattle.std.proofs.Common.{◌≡◌, List, [], ◌∷◌, refl, ap, map}
use Rattle.sound_model.specs.Layers.{track_sample}
use Rattle.sound_model.specs.Routes as sound
use Rattle.sound_model.specs.Routes.{master_sample}
use Rattle.session_model.specs.declared.route.Route.{Route}
use Rattle.session_model.specs.declared.track.Track.{Track}
use Rattle.session_model.specs.Views.{route_of, track_regions}
use Rattle.session_text.specs.Session.{as_read, route_as_read}
use Rattle.session_text.specs.Laws.{MigratedSoundsTheSame}

same_routes : (tracks : List Track) (routes : List Route) → map (route_of tracks) (map route_as_read routes) ≡ map (route_of tracks) routes
same_routes tracks [] = refl
same_routes tracks (q ∷ qs) = ap (λ (rest : List sound.Route). route_of tracks q ∷ rest) (same_routes tracks qs)

pub migrated_sounds_the_same : MigratedSoundsTheSame
unfolding as_read
migrated_sounds_the_same sounds s x c =
    ap (λ (routes : List sound.Route). master_sample routes (λ t k. track_sample sounds (track_regions s t) k x) x c) (same_routes s.tracks.items s.routes.items)
