-- What an accepted command changes of a session (own). A command names routes, tracks and regions; a change has their places.
use Rattle.std.specs.Prelude.{ℕ, zero, suc, Bool, not, ◌==◌, if◌then◌else◌, List, [], ◌∷◌, Some, filter}
use Rattle.sound_model.specs.Regions.{Region}
use Rattle.sound_model.specs.Layers.{with_region}
use Rattle.sound_model.specs.Lanes.{Point}
use Rattle.ses_units.specs.declared.mode.Mode.{Mode}
use Rattle.ses_units.specs.Lane.{with_point, without_point}
use Rattle.session_model.specs.declared.route.SendLink.{SendLink}
use Rattle.session_model.specs.declared.route.Route.{Route}
use Rattle.session_model.specs.declared.track.Track.{Track}
use Rattle.session_model.specs.declared.session.Session.{Session}
use Rattle.session_model.specs.Playlist.{without_region}

-- tracks and routes go by their places, which count from 0
pub data Change : Type 0 where
  -- the session stays: what the transport does, the command itself says
  TransportOnly : Change
  -- track, whether it is armed
  Armed : ℕ → Bool → Change
  -- track, whether it is soloed
  Soloed : ℕ → Bool → Change
  -- route, whether it is muted
  Muted : ℕ → Bool → Change
  -- route, its fader
  Faded : ℕ → ℕ → Change
  -- route, its gains into the first and into the second of two channels
  Panned : ℕ → ℕ → ℕ → Change
  InMode : ℕ → Mode → Change
  -- route, a point in place of the one there
  PointSet : ℕ → Point → Change
  -- route, the place of the point that goes
  PointUnset : ℕ → ℕ → Change
  -- route, the one that its output leads to
  Leads : ℕ → ℕ → Change
  -- route, a send in place of the one to the same route
  SendSet : ℕ → SendLink → Change
  -- route, the one that it sends to no more
  SendUnset : ℕ → ℕ → Change
  -- track, a region in place of the one with its id
  RegionPut : ℕ → Region → Change
  -- track, the id of the region that goes
  RegionTaken : ℕ → ℕ → Change

-- ---- at one place of a list

-- the item at a place changes; past the end nothing does
abbrev pub changed_at : {X : Type 0} → (X → X) → ℕ → List X → List X
changed_at f place [] = []
changed_at f zero (x ∷ xs) = f x ∷ xs
changed_at f (suc place) (x ∷ xs) = x ∷ changed_at f place xs

abbrev pub with_route : (Route → Route) → ℕ → Session → Session
with_route f r s = record s { routes = record s.routes { items = changed_at f r s.routes.items } }

abbrev pub with_track : (Track → Track) → ℕ → Session → Session
with_track f t s = record s { tracks = record s.tracks { items = changed_at f t s.tracks.items } }

-- ---- the sends of a route

-- a send at the place of the one to the same route, or after all others
abbrev pub with_send : SendLink → List SendLink → List SendLink
with_send link [] = link ∷ []
with_send link (l ∷ ls) = if l.to == link.to then link ∷ ls else l ∷ with_send link ls

abbrev pub without_send : ℕ → List SendLink → List SendLink
without_send to links = filter (λ l. not (l.to == to)) links

-- the list of sends has the room that it had
abbrev pub sending : (List SendLink → List SendLink) → Route → Route
sending f q = record q { sends = record q.sends { items = f q.sends.items } }

-- ---- the session

-- a session with a change
abbrev pub made : Session → Change → Session
made s TransportOnly = s
made s (Armed t on) = with_track (λ k. record k { armed = on }) t s
made s (Soloed t on) = with_track (λ k. record k { solo = on }) t s
made s (Muted r on) = with_route (λ q. record q { muted = on }) r s
made s (Faded r gain) = with_route (λ q. record q { fader = gain }) r s
made s (Panned r left right) = with_route (λ q. record q { left = left; right = right }) r s
made s (InMode r mode) = with_route (λ q. record q { mode = mode }) r s
made s (PointSet r p) = with_route (λ q. record q { lane = with_point q.lane p }) r s
made s (PointUnset r place) = with_route (λ q. record q { lane = without_point q.lane place }) r s
made s (Leads r to) = with_route (λ q. record q { target = Some to }) r s
made s (SendSet r link) = with_route (sending (with_send link)) r s
made s (SendUnset r to) = with_route (sending (without_send to)) r s
made s (RegionPut t r) = with_track (λ k. record k { list = with_region r (without_region k.list r.id) }) t s
made s (RegionTaken t id) = with_track (λ k. record k { list = without_region k.list id }) t s
