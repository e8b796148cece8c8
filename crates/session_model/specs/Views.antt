-- A session as the definitions of the sound have it: its routes by their places, and the regions of its tracks.
use Rattle.std.specs.Prelude.{ℕ, Bool, false, List, [], map, slice_get, Option, Some, None}
use Rattle.std.specs.Option.{option_map_or}
use Rattle.sound_model.specs.Regions as regions
use Rattle.sound_model.specs.Routes as sound
use Rattle.ses_units.specs.Mode.{mode_of}
use Rattle.session_model.specs.declared.route.SendLink.{SendLink}
use Rattle.session_model.specs.declared.route.RouteKind.{RouteKind}
use Rattle.session_model.specs.declared.route.RouteKind.TheVariants.{Track as OfTrack, Bus, Master}
use Rattle.session_model.specs.declared.route.Route.{Route}
use Rattle.session_model.specs.declared.track.Track.{Track}
use Rattle.session_model.specs.declared.session.Session.{Session}

abbrev pub send_of : SendLink → sound.Send
send_of s = record { to = s.to; pre = s.pre; gain = s.gain }

-- the number of a track, and none of a bus and the master
abbrev pub track_number : RouteKind → Option ℕ
track_number (OfTrack t) = Some t
track_number Bus = None
track_number Master = None

-- a track is soloed; a bus and the master never are
abbrev pub is_soloed : List Track → RouteKind → Bool
is_soloed tracks (OfTrack t) = option_map_or (λ k. k.solo) (slice_get tracks t) false
is_soloed tracks Bus = false
is_soloed tracks Master = false

abbrev pub route_of : List Track → Route → sound.Route
route_of tracks q = record {
  track = track_number q.kind;
  channels = q.channels;
  fader = q.fader;
  mode = mode_of q.mode;
  lane = q.lane;
  muted = q.muted;
  soloed = is_soloed tracks q.kind;
  left = q.left;
  right = q.right;
  target = q.target;
  sends = map send_of q.sends.items;
}

abbrev pub routes_of : Session → List sound.Route
routes_of s = map (route_of s.tracks.items) s.routes.items

-- the regions of a track, none where there is no such track
abbrev pub track_regions : Session → ℕ → List regions.Region
track_regions s t = option_map_or (λ k. k.list) (slice_get s.tracks.items t) []
