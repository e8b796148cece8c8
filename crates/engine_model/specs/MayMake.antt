-- Which changes may be made of a session: their places are there, and what they put keeps its limits (own).
use Rattle.std.specs.Prelude.{◌≡◌, ℕ, ◌+◌, ◌^◌, ◌<◌, ◌≤◌, ◌⊎◌, true, false, IsTrue, length, All}
use Rattle.sound_model.specs.Regions.{Region}
use Rattle.ses_units.specs.Lane.{IsLane}
use Rattle.session_model.specs.declared.route.Route.{Route}
use Rattle.session_model.specs.declared.session.Session.{Session}
use Rattle.session_model.specs.Views.{track_regions}
use Rattle.session_model.specs.Formed.{channels_at, HasSource}
use Rattle.session_model.specs.Region.{IsRegion}
use Rattle.session_model.specs.Playlist.{IsPlaylist, has_region}
use Rattle.engine_model.specs.Changes.{Change, TransportOnly, Armed, Soloed, Muted, Faded, Panned, InMode, PointSet, PointUnset, Leads, SendSet, SendUnset, RegionPut, RegionTaken}
use Rattle.engine_model.specs.Commands.{has_input, other_points, has_point, other_sends, has_send, closes}

-- ---- what the types of a session's parts keep by themselves

pub record HasQuietGains (q : Route) : Type 0 where
  pub fader : q.fader ≤ 262144
  pub left : q.left ≤ 262144
  pub right : q.right ≤ 262144
  pub lane : IsLane q.lane
  pub sends : All (λ l. l.gain ≤ 262144) q.sends.items

-- A session as its types have it: gains, lanes and playlists keep their limits.
pub record KeepsItsTypes (s : Session) : Type 0 where
  pub routes : All HasQuietGains s.routes.items
  pub tracks : All (λ k. IsPlaylist k.list) s.tracks.items

-- ---- changes

-- A route may be linked to another: it isn't the master; the other is a bus or the master, has no fewer channels, and
-- doesn't lead back.
pub record MayLink (s : Session) (r to : ℕ) : Type 0 where
  pub sender : r + 1 < length s.routes.items
  pub no_track : length s.tracks.items ≤ to
  pub there : to < length s.routes.items
  pub wide : channels_at s r ≤ channels_at s to
  pub no_cycle : closes s r to ≡ false

-- A region may be put on a track: it keeps its limits, its source is there with the track's channels, and there is room.
pub record MayPut (s : Session) (t : ℕ) (r : Region) : Type 0 where
  pub track : t < length s.tracks.items
  pub limits : IsRegion r
  pub source : HasSource s (channels_at s t) r
  pub room : IsTrue (has_region (track_regions s t) r.id) ⊎ (length (track_regions s t) < 256)

abbrev pub MayMake : Session → Change → Type 0
MayMake s TransportOnly = Unit {0}
MayMake s (Armed t on) = (t < length s.tracks.items) × (on ≡ true → has_input s t ≡ true)
MayMake s (Soloed t on) = t < length s.tracks.items
MayMake s (Muted r on) = r < length s.routes.items
MayMake s (Faded r gain) = (r < length s.routes.items) × (gain ≤ 262144)
MayMake s (Panned r left right) = (r + 1 < length s.routes.items) × (left ≤ 262144) × (right ≤ 262144)
MayMake s (InMode r mode) = r < length s.routes.items
MayMake s (PointSet r p) = (r < length s.routes.items) × (p.at < 2 ^ 40) × (p.gain ≤ 262144) × (other_points s r p.at < 1024)
MayMake s (PointUnset r place) = (r < length s.routes.items) × (has_point s r place ≡ true)
MayMake s (Leads r to) = MayLink s r to
MayMake s (SendSet r link) = MayLink s r link.to × (link.gain ≤ 262144) × (other_sends s r link.to < 8)
MayMake s (SendUnset r to) = (r + 1 < length s.routes.items) × (has_send s r to ≡ true)
MayMake s (RegionPut t r) = MayPut s t r
MayMake s (RegionTaken t id) = (t < length s.tracks.items) × (has_region (track_regions s t) id ≡ true)
